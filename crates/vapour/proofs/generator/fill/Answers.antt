-- `vapour::generator::fill` meets its contract. The loop's invariant: the entries filled so far.
use native.Mathlib.Omega.{arith}
use borrow.Author.Rules.{rules}
use Rattle.laws.proofs.Fill as Fill
use Rattle.vapour.specs.Vapour.{places}
use Rattle.vapour.proofs.FilledSlice.{all_filled}
use Rattle.vapour.proofs.generator.fill.Goals as goal

pub loop-index-init : goal.loop-index-init
loop-index-init c = Fill.none _ _ places _ (omega arith)

pub loop-index-preserved : goal.loop-index-preserved
loop-index-preserved c = Fill.more _ c.loop-index.invariant (search rules) c.entry_at.ensures

pub returns : goal.returns
returns c = all_filled (omega arith) c.loop-index.invariant (search rules)
