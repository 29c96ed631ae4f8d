-- The values added so far, each of 16 bits.
use Rattle.std.proofs.Common.{◌≡◌, ◌*◌, pos, neg_ℤ, ◌≤ℤ◌}
use Rattle.quality.specs.Coded.{cells}
use Rattle.daily.specs.Means.{sum}
use Rattle.daily_line.proofs.means.eightfold.Given as goal

abbrev pub invariant-loop-value : goal.invariant-loop-value
invariant-loop-value l = record {
  sum : l.sum ≡ sum (cells l.fn.c) l.value-index;
  least : neg_ℤ (pos (32768 * l.value-index)) ≤ℤ l.sum;
  most : l.sum ≤ℤ pos (32768 * l.value-index);
}
