-- `quality_steps::fill_all` meets its contract. The loop's invariant: the columns filled so far.
use Rattle.quality.specs.Settled.{fill_of}
use Rattle.quality_steps.proofs.Changing.{Changed}
use Rattle.quality_steps.proofs.fill_all.Given as goal

abbrev pub invariant-loop-e : goal.invariant-loop-e
invariant-loop-e l = Changed fill_of l.fn.s l.column-items l.e
