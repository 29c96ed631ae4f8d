-- A loop that makes a test at each of 0 .. n - 1 in turn, and stops at the first that fails.
--     none       before the first turn
--     more       one more test passed
--     whole      after the last
--     stopped    where one fails
-- two tests that agree below the bound, and a test of each number of a range.
-- Assumes nothing.
use mathlib.Core.Path.{◌≡◌, refl, sym, ◌∙◌, ap, ap₂}
use mathlib.Core.Bool.{Bool, true, false, ◌&&◌, and-true, false≢true}
use Prim.Native.Nat.{ℕ, zero, suc, ◌+◌, ◌<◌, ◌≤◌}
use native.Mathlib.Numerals.{add-one}
use native.Mathlib.Omega.{arith}
use Rattle.std.specs.List.{range_with_len, list_all}
use Rattle.std.proofs.lemmas.List.Folds.{list_all-append, list_all-map}
use Rattle.std.proofs.lemmas.List.FromFn.{map-range_with_len_more}
use Rattle.laws.specs.All.{all}
use Rattle.laws.proofs.Bools.{is_true, is_false, known, via, and_true}
use Rattle.laws.proofs.Tables.{all_more, all_at}

-- the first i of the n tests have been made, and passed
pub record Passed (p : ℕ → Bool) (n : ℕ) (i : ℕ) : Type 0 where
  pub upto : i ≤ n
  pub so_far : all p i ≡ true

pub none : (p : ℕ → Bool) (n : ℕ) → Passed p n 0
none p n = record { upto = omega arith; so_far = refl }

module _ {p : ℕ → Bool} {n i : ℕ} (h : Passed p n i) where
  -- r is the answer of the test at i
  pub more : i < n → (r : Bool) → r ≡ p i → r ≡ true → Passed p n (i + 1)
  more l r e t = record { upto = omega arith; so_far = all_more p i ∙ and_true (all p i) (p i) h.so_far (via e t) }

  pub whole : n ≤ i → true ≡ all p n
  whole l = let e : i ≡ n = omega arith in rw (← e) (sym h.so_far)

  pub stopped : i < n → (r : Bool) → r ≡ p i → r ≡ false → false ≡ all p n
  stopped l r e t =
      elim (known (all p n)) [
        | is_true a ↦ absurd (false≢true (sym (via e t) ∙ all_at p n a i l))
        | is_false f ↦ sym f
      ]

pub all_ext : (p q : ℕ → Bool) (n : ℕ) → ((k : ℕ) → k < n → p k ≡ q k) → all p n ≡ all q n
all_ext p q zero h = refl
all_ext p q (suc n) h = ap₂ (λ (a b : Bool). a && b) (all_ext p q n (λ k l. h k (omega arith))) (h n (omega arith))

-- as `(0..n).all(..)` makes them
pub all_in_range : (p : ℕ → Bool) (n : ℕ) → list_all p (range_with_len 0 n) ≡ all p n
all_in_range p zero = refl
all_in_range p (suc n) =
    sym (list_all-map p (λ k. k) (range_with_len 0 (suc n)))
    ∙ ap (list_all p) (rw add-one at (map-range_with_len_more (λ k. k) 0 n n (omega arith)))
    ∙ list_all-append p _ _
    ∙ ap₂ (λ (a b : Bool). a && b) (list_all-map p (λ k. k) (range_with_len 0 n) ∙ all_in_range p n) (and-true (p n))
