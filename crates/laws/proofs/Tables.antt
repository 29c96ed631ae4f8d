-- Laws of `table` and of `all`.
-- Assumes nothing.
use mathlib.Core.Path.{◌≡◌, refl, sym, ◌∙◌, ap, subst}
use mathlib.Core.Logic.{⊎_elim}
use mathlib.Core.Bool.{Bool, true, ◌&&◌}
use mathlib.Core.List.{List, ◌∷◌}
use Prim.Native.Nat.{ℕ, zero, suc, ◌+◌, ◌<◌, suc-le-suc, zero-le}
use native.Mathlib.Nat.{le_of_suc-le-suc, not-suc-le-zero, eq-or-lt_of_le}
use native.Mathlib.Decide.{ℕ_discrete}
use native.Mathlib.Numerals.{add-one}
use native.Mathlib.Omega.{arith}
use lib.ListN.{length, get_or, set}
use lib.Seq.{ext_get_or, get_or-set_same, get_or-set_other}
use Rattle.laws.specs.All.{all}
use Rattle.laws.specs.Table.{table}
use Rattle.laws.proofs.Bools.{and_left, and_right, and_true}

module _ {A : Type 0} where
  pub length_table : (n : ℕ) (f : ℕ → A) → length (table n f) ≡ n
  unfolding table
  length_table zero f = refl
  length_table (suc n) f = ap suc (length_table n (λ k. f (suc k)))

  -- the entry at k is f's value there
  pub get_d_table : (n : ℕ) (f : ℕ → A) (k : ℕ) (d : A) → k < n → get_or (table n f) k d ≡ f k
  unfolding table
  get_d_table zero f k d h = absurd (not-suc-le-zero h)
  get_d_table (suc n) f zero d h = refl
  get_d_table (suc n) f (suc k) d h = get_d_table n (λ j. f (suc j)) k d (le_of_suc-le-suc h)

  -- tables of functions that agree below the bound
  pub table_ext : (n : ℕ) (f g : ℕ → A) → ((k : ℕ) → k < n → f k ≡ g k) → table n f ≡ table n g
  unfolding table
  table_ext zero f g h = refl
  table_ext (suc n) f g h = λ i. h zero (suc-le-suc zero-le) i ∷ table_ext n (λ k. f (suc k)) (λ k. g (suc k)) (λ k l. h (suc k) (suc-le-suc l)) i

  -- a list of n entries that are f's values is the table
  pub is_table : (n : ℕ) (f : ℕ → A) (xs : List A) (d : A) → length xs ≡ n → ((k : ℕ) → k < n → get_or xs k d ≡ f k) → xs ≡ table n f
  unfolding table
  is_table n f xs d e h =
      ext_get_or d xs (table n f) (e ∙ sym (length_table n f))
      (λ i l. let l' : i < n = subst (λ (m : ℕ). i < m) e l in h i l' ∙ sym (get_d_table n f i d l'))

-- ---- a test at every number below a bound
-- what holds of each entry, by its index, holds after an entry of which it holds is put in
module _ {A : Type 0} (P : ℕ → A → Type 0) (d : A) where
  pub set_each : (n : ℕ) (xs : List A) (k : ℕ) (x : A) → length xs ≡ n → P k x → ((j : ℕ) → j < n → P j (get_or xs j d))
      → (j : ℕ) → j < n → P j (get_or (set xs k x) j d)
  set_each n xs k x e p h j l = go (ℕ_discrete j k)
    where
      go : Dec (j ≡ k) → P j (get_or (set xs k x) j d)
      go (yes q) =
          subst (λ (i : ℕ). P i (get_or (set xs k x) i d)) (sym q)
          (subst (P k) (sym (get_or-set_same xs k x d (subst (λ (m : ℕ). k < m) (sym e) (subst (λ (i : ℕ). i < n) q l)))) p)
      go (no q) = subst (P j) (sym (get_or-set_other xs k j x d q)) (h j l)

pub all_more : (p : ℕ → Bool) (i : ℕ) → all p (i + 1) ≡ (all p i && p i)
all_more p i = rw add-one

-- the test at one of them
pub all_at : (p : ℕ → Bool) (n : ℕ) → all p n ≡ true → (k : ℕ) → k < n → p k ≡ true
all_at p zero e k h = absurd (not-suc-le-zero h)
all_at p (suc n) e k h =
    ⊎_elim (λ q. subst (λ (m : ℕ). p m ≡ true) (sym q) (and_right (all p n) (p n) e)) (λ l. all_at p n (and_left (all p n) (p n) e) k l)
    (eq-or-lt_of_le (le_of_suc-le-suc h))

-- it holds at all from each
pub all_from : (p : ℕ → Bool) (n : ℕ) → ((k : ℕ) → k < n → p k ≡ true) → all p n ≡ true
all_from p zero h = refl
all_from p (suc n) h = and_true (all p n) (p n) (all_from p n (λ k l. h k (below k l))) (h n (itself n))
  where
    below : (k : ℕ) → k < n → k < suc n
    below k l = omega arith

    itself : (m : ℕ) → m < suc m
    itself m = omega arith
