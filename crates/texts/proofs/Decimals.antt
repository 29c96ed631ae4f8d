-- Numbers in decimal: what std's printing writes of them, and how long they are.
-- Assumes nothing.
use mathlib.Core.Path.{◌≡◌, ◌∙◌, ap}
use mathlib.Core.List.{List, [], ◌∷◌}
use Prim.Native.Nat.{ℕ, zero, suc, ◌+◌, ◌*◌, ◌/◌, ◌^◌, ◌<◌, ◌≤◌}
use native.Mathlib.Omega.{arith}
use lib.IntN.{ℤ, pos, negsuc}
use Rattle.std.specs.Prelude.{FitsSigned}
use Rattle.std.specs.Int.{w32}
use lib.ListN.{length}
use Rattle.std.specs.Fmt.{decimal as printed, signed_decimal as printed_signed}
use Rattle.std.proofs.lemmas.Fmt.{decimal_digit, decimal_step}
use Rattle.std.proofs.lemmas.Grind.{common_steps}
use Rattle.texts.specs.Numbers.{last_digit, digits, decimal, signed}

-- ---- as printed
-- 10 to the power k + 1
abbrev power : ℕ → ℕ
power zero = 10
power (suc k) = 10 * power k

one_printed : (n : ℕ) → n < 10 → printed n ≡ last_digit n ∷ []
one_printed n h = decimal_digit n h ∙ ap (λ (d : ℕ). (48 + d) ∷ []) (omega arith)

digits_printed : (k n : ℕ) → n < power k → n < 2 ^ 64 → printed n ≡ digits k n
unfolding digits
digits_printed zero n h small = one_printed n h
digits_printed (suc k) n h small = grind (arith, common_steps, one_printed n, decimal_step n, digits_printed k (n / 10))

pub decimal_printed : (n : ℕ) → n < 2 ^ 64 → printed n ≡ decimal n
decimal_printed n small = digits_printed 19 n (omega arith) small

pub signed_printed : (z : ℤ) → FitsSigned w32 z → printed_signed z ≡ signed z
signed_printed (pos n) fits = let f = fits.sfits in decimal_printed n (omega arith)
signed_printed (negsuc n) fits = let f = fits.sfits in ap (λ (t : List ℕ). 45 ∷ t) (decimal_printed (suc n) (omega arith))

-- ---- lengths
pub digits_short : (k n : ℕ) → length (digits k n) ≤ k + 1
unfolding digits
digits_short zero n = omega arith
digits_short (suc k) n = grind (arith, common_steps, digits_short k (n / 10))

pub signed_short : (z : ℤ) → length (signed z) ≤ 21
signed_short (pos n) = omega (arith, digits_short 19 n)
signed_short (negsuc n) = omega (arith, digits_short 19 (suc n))
