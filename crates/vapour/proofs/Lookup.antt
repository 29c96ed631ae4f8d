-- The definition at a dew point of the table, by the dew point's index there.
-- Assumes nothing.
use mathlib.Core.Path.{◌≡◌}
use mathlib.Core.Bool.{false}
use Rattle.std.specs.Prelude.{Some}
use Prim.Native.Nat.{ℕ, ◌+◌, ◌<◌}
use native.Mathlib.Omega.{arith}
use lib.IntN.{ℤ, pos, negsuc, nat_abs, sub_ℕ, ◌-ℤ◌}
use lib.Signed.{lt_z}
use Rattle.std.proofs.lemmas.Int.{ints}
use Rattle.laws.proofs.Differences.{from_zero}
use Rattle.vapour.specs.Vapour.{places, entry, pressure}

-- at the dew point of an index
pub at_index : (i : ℕ) → i < places → pressure (sub_ℕ i 500) ≡ Some (entry (sub_ℕ i 500))
unfolding pressure
at_index i l = grind (arith, ints)

-- a dew point is that of its index
index : (t : ℤ) → lt_z t (negsuc 499) ≡ false → sub_ℕ (nat_abs (t -ℤ negsuc 499)) 500 ≡ t
index (pos n) h =
    let e : n + 500 ≡ 500 + n = omega arith in
    rw e (from_zero 500 n)
index (negsuc n) h = grind (arith, ints)

-- at the index of a dew point
pub at_dew_point : (t : ℤ) → lt_z t (negsuc 499) ≡ false → lt_z (pos 500) t ≡ false → pressure t ≡ Some (entry (sub_ℕ (nat_abs (t -ℤ negsuc 499)) 500))
unfolding pressure
at_dew_point t l h = rw index (grind (arith, ints))
