-- The terms and their sum as a loop makes them, and their bounds where q is at most 5S: a term is at most 28S, so that a term times
-- q, and the sum, stay below 2^64.
-- Assumes nothing.
use mathlib.Core.Path.{◌≡◌}
use Prim.Native.Nat.{ℕ, zero, suc, ◌+◌, ◌*◌, ◌/◌, ◌≤◌}
use native.Mathlib.Nat.{le_refl, le_trans, mul-le-mul, div-le_of_le-mul}
use native.Mathlib.Numerals.{add-one}
use native.Mathlib.Omega.{arith}
use Rattle.vapour.specs.Vapour.{S, term, sum_to}
use Rattle.vapour.proofs.Pass.{term_suc, sum_to_suc}

-- one turn of the loop: the next term and the next sum
pub term_next : (q k t : ℕ) → t ≡ term q k → t * q / (S * (k + 1)) ≡ term q (k + 1)
term_next q k t e = rw (add-one, term_suc, e)

pub sum_to_next : (f : ℕ → ℕ) (k z u : ℕ) → z ≡ sum_to f k → u ≡ f (k + 1) → z + u ≡ sum_to f (k + 1)
sum_to_next f k z u e h = rw (e, h, add-one, sum_to_suc)

-- term k is at most so many S
abbrev cap : ℕ → ℕ
cap zero = 1
cap (suc zero) = 5
cap (suc (suc zero)) = 13
cap (suc (suc (suc zero))) = 22
cap (suc (suc (suc (suc k)))) = 28

cap_most : (k : ℕ) → cap k ≤ 28
cap_most zero = omega arith
cap_most (suc zero) = omega arith
cap_most (suc (suc zero)) = omega arith
cap_most (suc (suc (suc zero))) = omega arith
cap_most (suc (suc (suc (suc k)))) = omega arith

module _ (q : ℕ) (h : q ≤ 5 * S) where
  up : (k b : ℕ) → cap k * S * (5 * S) ≤ S * suc k * (b * S) → term q k ≤ cap k * S → term q (suc k) ≤ b * S
  up k b l t = rw term_suc (div-le_of_le-mul (S * suc k) (le_trans (mul-le-mul t h) l))

  capped : (k : ℕ) → term q k ≤ cap k * S
  unfolding term
  capped zero = omega arith
  capped (suc zero) = up 0 5 (omega arith) (capped zero)
  capped (suc (suc zero)) = up 1 13 (omega arith) (capped (suc zero))
  capped (suc (suc (suc zero))) = up 2 22 (omega arith) (capped (suc (suc zero)))
  capped (suc (suc (suc (suc zero)))) = up 3 28 (omega arith) (capped (suc (suc (suc zero))))
  capped (suc (suc (suc (suc (suc k))))) = up (suc (suc (suc (suc k)))) 28 (omega arith) (capped (suc (suc (suc (suc k)))))

  pub term_most : (k : ℕ) → term q k ≤ 28 * S
  term_most k = omega (arith, capped k, cap_most k)

  -- a term times q
  pub product_most : (k t : ℕ) → t ≡ term q k → t * q ≤ 28 * S * (5 * S)
  product_most k t e = rw e (mul-le-mul (term_most k) h)

  -- the sum of terms 0 to k
  pub sum_to_most : (k : ℕ) → sum_to (term q) k ≤ 28 * S * suc k
  unfolding sum_to term
  sum_to_most zero = omega arith
  sum_to_most (suc k) = rw sum_to_suc (omega (arith, sum_to_most k, term_most (suc k)))

pub sum_to_least : (q k : ℕ) → S ≤ sum_to (term q) k
unfolding sum_to term
sum_to_least q zero = le_refl S
sum_to_least q (suc k) = rw sum_to_suc (omega (arith, sum_to_least q k))
