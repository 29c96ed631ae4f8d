-- `quality_steps::range_all` meets its contract. The loop's invariant: the columns ranged so far.
use Rattle.quality.specs.Limits.{limits, row_of, is_warm}
use Rattle.quality.specs.Steps.{range_column}
use Rattle.quality_steps.proofs.Changing.{Changed}
use Rattle.quality_steps.proofs.range_all.Given as goal

abbrev pub invariant-loop-e : goal.invariant-loop-e
invariant-loop-e l = Changed (λ e. range_column (limits e (row_of l.climate) (is_warm l.season))) l.fn.s l.column-items l.e
