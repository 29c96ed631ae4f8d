-- `quality_steps::time_all` meets its contract. The loop's invariant: the columns timed so far.
use Rattle.quality.specs.Settled.{time_of}
use Rattle.quality_steps.proofs.Changing.{Changed}
use Rattle.quality_steps.proofs.time_all.Given as goal

abbrev pub invariant-loop-e : goal.invariant-loop-e
invariant-loop-e l = Changed time_of l.fn.s l.column-items l.e
