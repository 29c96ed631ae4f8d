-- A test of 81 places, nine by nine.
-- Assumes nothing.
use mathlib.Core.Path.{◌≡◌, sym, ◌∙◌, ap, ap₂}
use mathlib.Core.Bool.{Bool, ◌&&◌, and_assoc, and-true}
use Prim.Native.Nat.{ℕ, zero, suc, ◌+◌, ◌*◌, ◌<◌}
use native.Mathlib.Omega.{arith}
use Rattle.laws.specs.All.{all}
use Rattle.store_layout.specs.Layout.{cell_length, cell_element}
use Rattle.store_numbers.proofs.Passed.{all_ext}

module _ (f : ℕ → Bool) where
  -- the first a, and then b more
  all_on : (a b : ℕ) → all f (a + b) ≡ (all f a && all (λ e. f (a + e)) b)
  all_on a zero = let z : a + 0 ≡ a = omega arith in ap (all f) z ∙ sym (and-true (all f a))
  all_on a (suc b) =
      let z : a + suc b ≡ suc (a + b) = omega arith in
      ap (all f) z ∙ ap (λ (r : Bool). r && f (a + b)) (all_on a b) ∙ and_assoc (all f a) (all (λ e. f (a + e)) b) (f (a + b))

  pub nines : (n : ℕ) → all (λ k. all (λ e. f (9 * k + e)) 9) n ≡ all f (9 * n)
  nines zero = let z : 0 ≡ 9 * 0 = omega arith in ap (all f) z
  nines (suc n) =
      let z : 9 * n + 9 ≡ 9 * suc n = omega arith in
      ap (λ (r : Bool). r && all (λ e. f (9 * n + e)) 9) (nines n) ∙ sym (all_on (9 * n) 9) ∙ ap (all f) z

-- of a test of a cell by its element and by what stands at its position
pub slot_by_slot : (p : ℕ → ℕ → Bool) (at : ℕ)
    → all (λ k. all (λ e. p e ((at + cell_length * 9 * k) + cell_length * e)) 9) 9 ≡ all (λ j. p (cell_element j) (at + cell_length * j)) 81
slot_by_slot p at = all_ext _ _ 9 (λ k l. all_ext _ _ 9 (λ e m. ap₂ p (element k e m) (place k e))) ∙ nines (λ j. p (cell_element j) (at + cell_length * j)) 9
  where
    element : (k e : ℕ) → e < 9 → e ≡ cell_element (9 * k + e)
    element k e m = omega arith

    place : (k e : ℕ) → (at + cell_length * 9 * k) + cell_length * e ≡ at + cell_length * (9 * k + e)
    place k e = omega arith
