-- Numbers tested in turn, each against the one before: strictly ascending, and each with a test of its own.
-- Assumes nothing.
use mathlib.Core.Path.{◌≡◌, refl, sym, ◌∙◌, ap}
use mathlib.Core.Bool.{Bool, true, false, ◌&&◌, and-true, and-false}
use Prim.Native.Nat.{ℕ, zero, suc, ◌-◌}
use native.Mathlib.Omega.{arith}
use lib.Dec.{ltb}
use Rattle.laws.specs.All.{all}

-- the number before the i-th, 0 before the first
abbrev pub number_before : (ℕ → ℕ) → ℕ → ℕ
number_before x zero = 0
number_before x (suc i) = x i

-- the i-th is above the one before and passes its test
abbrev pub in_order : (ℕ → ℕ) → (ℕ → Bool) → ℕ → Bool
in_order x p i = ltb (number_before x i) (x i) && p i

apart : (a o p e : Bool) → (a && o && (p && e)) ≡ (a && e && (o && p))
apart true true true e = sym (and-true e)
apart true true false e = sym (and-false e)
apart true false p e = sym (and-false e)
apart false o p e = refl

less : (m : ℕ) → suc m - 1 ≡ m
less m = omega arith

-- where the test of the first one asks that it is above 0
pub in_turn : (x : ℕ → ℕ) (p : ℕ → Bool) → (ltb 0 (x 0) && p 0) ≡ p 0 → (n : ℕ)
    → all (in_order x p) n ≡ (all p n && all (λ i. ltb (x i) (x (suc i))) (n - 1))
in_turn x p first zero = refl
in_turn x p first (suc zero) = first ∙ sym (and-true _)
in_turn x p first (suc (suc n)) =
    rw (less (suc n))
    (ap (λ (b : Bool). b && in_order x p (suc n)) (in_turn x p first (suc n))
    ∙ rw (less n) (apart (all p (suc n)) (all (λ i. ltb (x i) (x (suc i))) n) (ltb (x n) (x (suc n))) (p (suc n))))
