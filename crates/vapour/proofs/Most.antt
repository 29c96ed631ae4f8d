-- The largest entry is 12419. So an entry takes 16 bits, and the sum of eight is at most 99352.
-- Assumes nothing.
use mathlib.Core.Path.{◌≡◌, refl}
use mathlib.Core.Bool.{Bool, true}
use Rattle.std.specs.Prelude.{None, Some}
use Prim.Native.Nat.{ℕ, suc, ◌+◌, ◌-◌, ◌≤◌, ◌<◌}
use native.Mathlib.Omega.{arith}
use borrow.Author.Tests.{leb-true}
use lib.Dec.{leb}
use lib.IntN.{ℤ, pos, negsuc, sub_ℕ}
use Rattle.laws.specs.All.{all}
use Rattle.laws.proofs.Bools.{and_left, cond_true, cond_false, Known, is_true, is_false, known}
use Rattle.laws.proofs.Tables.{all_at}
use Rattle.vapour.specs.Vapour.{places, entry, in_table, pressure}
use Rattle.laws.proofs.Differences.{from_zero, below_zero}
use Rattle.vapour.proofs.Pass.{quick, quick_is}

small : ℕ → Bool
small i = leb (quick (sub_ℕ i 500)) 12419

-- the test, computed at every index
all_small : all small places ≡ true
unfolding small
all_small = refl

-- the entry at an index
pub index_most : (i : ℕ) → i < places → entry (sub_ℕ i 500) ≤ 12419
unfolding small
index_most i h = rw quick_is at (leb-true (quick (sub_ℕ i 500)) 12419 (all_at small places all_small i h))

-- the entry at a dew point of the table
pub entry_most : (t : ℤ) → in_table t ≡ true → entry t ≤ 12419
entry_most (pos n) h =
    let l : n ≤ 500 = leb-true n 500 h in
    rw (from_zero 500 n) at (index_most (500 + n) (omega arith))
entry_most (negsuc n) h =
    let l : n ≤ 499 = leb-true n 499 (and_left (leb n 499) true h) in
    rw (below_zero 500 n (omega arith)) at (index_most (500 - suc n) (omega arith))

-- a vapour pressure that is there
pub pressure_most : (t : ℤ) (n : ℕ) → pressure t ≡ Some n → n ≤ 12419
unfolding pressure
pressure_most t n e = go (known (in_table t))
  where
    go : Known (in_table t) → n ≤ 12419
    go (is_true h) =
        let s : entry t ≡ n = cc (cond_true (in_table t) (Some (entry t)) None h) in
        rw s at (entry_most t h)
    go (is_false h) =
        let z : ◌≡◌ {A = ℕ} 0 1 = cc (cond_false (in_table t) (Some (entry t)) None h) in
        omega arith
