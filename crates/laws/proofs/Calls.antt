-- Lists that calls of one closure made, each call leaving the closure as it was.
--     mapped, mapped_table      an array's `map`
--     tabled, tabled_as         `std::array::from_fn`, of the entries and of what they stand for
--     callable                  what `from_fn` asks of the closure
-- Assumes nothing.
use mathlib.Core.Path.{◌≡◌, sym, ◌∙◌, subst, ap}
use mathlib.Core.Logic.{⊎_elim}
use mathlib.Core.List.{List, map}
use Prim.Native.Nat.{ℕ, zero, suc, ◌+◌, ◌≤◌, ◌<◌}
use native.Mathlib.Nat.{eq-or-lt_of_le}
use native.Mathlib.Omega.{arith}
use lib.ListN.{length, get_or, length-map}
use Rattle.std.proofs.Common.{zero-le, ext_get_or}
use Rattle.std.proofs.iter.Serving.{same}
use Rattle.std.specs.Array.{IsMapOf, MapsFrom, IsFromFnResult, IsFromFnResultFrom, index_steps}
use Rattle.std.specs.Fn.{Called, Mut, Takes}
use Rattle.std.specs.Iterator.{CallableAtEachTurn}
use Rattle.laws.specs.Table.{table}
use Rattle.laws.proofs.Maps.{map_at}
use Rattle.laws.proofs.Tables.{is_table}

module _ {F A B : Type 0} (g : Mut F (A × Unit {0}) B) (f : F) (h : A → B)
    (calls : (x : A) (r : B) (q : F) → Called g f (x, tt) r q → (r ≡ h x) × (q ≡ f)) (xs : List A) (ys : List B) (d : A) (e : B) where
  mapped_at : (n i : ℕ) (p : F) → p ≡ f → MapsFrom g p xs ys i n → (k : ℕ) → i ≤ k → k < i + n → get_or ys k e ≡ h (get_or xs k d)
  mapped_at zero i p s m k l b = absurd (omega arith)
  mapped_at (suc n) i p s (q, x, y, at_x, at_y, ran, rest) k l b =
      let c = calls x y q (subst (λ (z : F). Called g z (x, tt) y q) s ran) in
      ⊎_elim (λ r. subst (λ (j : ℕ). get_or ys j e ≡ h (get_or xs j d)) r (at_y.1 e ∙ c.0 ∙ ap h (sym (at_x.1 d))))
      (λ m. mapped_at n (i + 1) q c.1 rest k (omega arith) (omega arith)) (eq-or-lt_of_le l)

  pub mapped : (n : ℕ) → length xs ≡ n → IsMapOf g f xs ys n → ys ≡ map h xs
  mapped n long m =
      ext_get_or e ys (map h xs) (m.long ∙ sym (length-map xs h ∙ long))
      (λ k l. let b : k < length xs = omega (arith, long, m.long) in mapped_at n 0 f (λ i. f) m.each k zero-le (omega arith) ∙ sym (map_at h xs k d e b))

  -- the same as a table
  pub mapped_table : (n : ℕ) → length xs ≡ n → IsMapOf g f xs ys n → ys ≡ table n (λ k. h (get_or xs k d))
  mapped_table n long m = is_table n (λ k. h (get_or xs k d)) ys e m.long (λ k b. mapped_at n 0 f (λ i. f) m.each k zero-le (omega arith))

-- φ is what is said of each entry, as a code's struct stands for a rule's
module _ {F B C : Type 0} (g : Mut F (ℕ × Unit {0}) B) (f : F) (φ : B → C) (h : ℕ → C) (n : ℕ)
    (calls : (k : ℕ) → k < n → (r : B) (q : F) → Called g f (k, tt) r q → (φ r ≡ h k) × (q ≡ f)) (ys : List B) (e : B) where
  tabled_at : (m i : ℕ) (p : F) → p ≡ f → i + m ≡ n → IsFromFnResultFrom g p ys i m → (k : ℕ) → i ≤ k → k < n → φ (get_or ys k e) ≡ h k
  tabled_at zero i p s u w k l b = absurd (omega arith)
  tabled_at (suc m) i p s u (q, y, at_y, ran, rest) k l b =
      let c = calls i (omega arith) y q (subst (λ (z : F). Called g z (i, tt) y q) s ran) in
      ⊎_elim (λ r. subst (λ (j : ℕ). φ (get_or ys j e) ≡ h j) r (ap φ (at_y.1 e) ∙ c.0))
      (λ v. tabled_at m (i + 1) q c.1 (omega arith) rest k (omega arith) b) (eq-or-lt_of_le l)

  pub tabled_as : IsFromFnResult g f ys n → map φ ys ≡ table n h
  tabled_as m =
      is_table n h (map φ ys) (φ e) (length-map ys φ ∙ m.long)
      (λ k b. let l : k < length ys = omega (b, m.long, arith) in map_at φ ys k e (φ e) l ∙ tabled_at n 0 f (λ i. f) (omega arith) m.each k zero-le b)

module _ {F B : Type 0} (g : Mut F (ℕ × Unit {0}) B) (f : F) (h : ℕ → B) (n : ℕ)
    (calls : (k : ℕ) → k < n → (r : B) (q : F) → Called g f (k, tt) r q → (r ≡ h k) × (q ≡ f)) (ys : List B) (e : B) where
  pub tabled : IsFromFnResult g f ys n → ys ≡ table n h
  tabled m = is_table n h ys e m.long (λ k b. tabled_at g f (λ (r : B). r) h n calls ys e n 0 f (λ i. f) (omega arith) m.each k zero-le b)

-- a closure that its calls leave as it was, and that may be called at each number below n
module _ {F B : Type 0} (g : Mut F (ℕ × Unit {0}) B) (f : F) (n : ℕ) where
  pub callable : ((p : F) (k : ℕ) (r : B) (q : F) → Called g p (k, tt) r q → q ≡ p) → ((k : ℕ) → k < n → Takes g f (k, tt))
      → CallableAtEachTurn (index_steps n) (λ p x q. (y : B) × Called g p (x, tt) y q) (λ p x. Takes g p (x, tt)) 0 f
  callable stays may =
      record {
        at =
            λ xs t q x u y folds e.
            subst (λ (z : F). Takes g z (x, tt)) (sym (same (λ (p : F) (k : ℕ) (s : F). (r : B) × Called g p (k, tt) r s) (λ p k s c. stays p k c.0 s c.1) xs f q folds))
            (may x (subst (λ (i : ℕ). i < n) (sym e.1) e.0));
      }
