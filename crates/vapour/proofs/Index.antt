-- The definition at t = i − 500, the dew point of the index i, in the numbers that the code of the recurrence computes with.
-- Assumes nothing.
use mathlib.Core.Path.{◌≡◌}
use Prim.Native.Nat.{ℕ, ◌+◌, ◌*◌, ◌/◌, ◌≤◌, ◌<◌}
use borrow.Author.Tests.{lt-ltb, le-ltb}
use lib.IntN.{ℤ, sub_ℕ}
use Rattle.vapour.specs.Vapour.{S, q, term, sum_to, Z, entry}

-- Z from q
z_at : (t : ℤ) (r z : ℕ) → r ≡ q t → z ≡ sum_to (term r) 30 → z ≡ Z t
unfolding Z
z_at t r z e h = rw (← e) h

-- the entry from Z, on either side of 0
module _ (i r z : ℕ) (e : r ≡ q (sub_ℕ i 500)) (h : z ≡ sum_to (term r) 30) where
  pub entry_below : i < 500 → (1224 * S + z) / (2 * z) ≡ entry (sub_ℕ i 500)
  unfolding entry
  entry_below l = rw (z_at (sub_ℕ i 500) r z e h, lt-ltb i 500 l)

  pub entry_above : 500 ≤ i → (1224 * z + S) / (2 * S) ≡ entry (sub_ℕ i 500)
  unfolding entry
  entry_above l = rw (z_at (sub_ℕ i 500) r z e h, le-ltb i 500 l)
