-- "the eightfold sum times 0.125, which is exact": the float is the sum divided by 8, with nothing rounded, for every sum below 2^53
-- in size. So it is for every sum of 32 bits.
-- Assumes nothing.
use mathlib.Core.Path.{◌≡◌, refl, sym, ◌∙◌, ap, subst}
use mathlib.Core.Bool.{Bool, true, false}
use Prim.Native.Nat.{ℕ, suc, ◌*◌, ◌^◌, ◌<◌}
use native.Mathlib.Nat.{mul_assoc, mul-pos, le_of_lt, lt_of_lt_of_le}
use lib.Dec.{lit<, lit≤}
use lib.IntN.{ℤ, pos, negsuc, nat_abs}
use lib.Pow.{shl_lt}
use lib.Ieee.{Float, nan, inf, fin, binary64, up, down, unlike, round, mul, of_int, of_bits}
use lib.Ieee.Exact.{HasValue, round_exact}
use lib.Ieee.Back.{round_whole}
use lib.Ieee.Fits.{down_pos}
use lib.Ieee.Scale.{round_same}
use Rattle.daily.specs.Coded.{eighth, IsEighth}

-- 0.125 is 2 ^ -3
an_eighth : of_bits binary64 0x3fc0000000000000 ≡ fin false 1 (negsuc 2)
unfolding of_bits
an_eighth = refl

sign_kept : (b : Bool) → unlike b false ≡ b
sign_kept true = refl
sign_kept false = refl

module _ (b : Bool) (n : ℕ) (h : n < 2 ^ 53) where
  -- n / 8 is n * 2 ^ 1071 times the format's smallest value, 2 ^ -1074
  held : HasValue (round binary64 b n 8) b n 8
  held = round_exact binary64 b n 8 n 1071 (lit< tt) h (lt_of_lt_of_le (shl_lt 53 1071 h) (lit≤ tt)) (sym (mul_assoc n (2 ^ 1071) 8))

  -- what is n in size, times 0.125
  times : (x : Float) → HasValue x b n 1 → HasValue (mul binary64 x (of_bits binary64 0x3fc0000000000000)) b n 8
  unfolding mul
  times nan v = absurd v
  times (inf t) v = absurd v
  times (fin t m e) v =
      rw an_eighth
      (subst (λ (y : Float). HasValue y b n 8)
      (sym
      (ap (λ (s : Bool). round binary64 s (m * up e * 1) (down e * 8)) (sign_kept t ∙ v.0)
      ∙ round_same binary64 b (m * up e * 1) (down e * 8) n 8 (mul-pos (down_pos e) (lit< tt)) (lit< tt) (ap (λ (a : ℕ). a * 8) v.1 ∙ mul_assoc n (down e) 8)))
      held)

pub exact : (s : ℤ) → nat_abs s < 2 ^ 53 → IsEighth (eighth s) s
unfolding of_int
exact (pos n) h = times false n h (round binary64 false n 1) (round_whole binary64 false n (le_of_lt h))
exact (negsuc n) h = times true (suc n) h (round binary64 true (suc n) 1) (round_whole binary64 true (suc n) (le_of_lt h))
