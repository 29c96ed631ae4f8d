-- `quality_steps::range_all` meets its contract. The loop's invariant: the columns ranged so far.
use mathlib.Core.Path.{◌∙◌, ap}
use borrow.Author.Rules.{rules}
use lib.ListN.{get_or}
use Rattle.quality.specs.Coded.{cells}
use Rattle.quality.specs.Limits.{Limits}
use Rattle.quality.specs.Settled.{range}
use Rattle.quality.specs.Steps.{range_column}
use Rattle.quality.proofs.Sheets.{blank}
use Rattle.quality_steps.proofs.Changing.{begun, more, whole}
use Rattle.quality_steps.proofs.range_all.Goals as goal

pub loop-e-init : goal.loop-e-init
loop-e-init c = begun _ _ (search rules)

pub loop-e-preserved : goal.loop-e-preserved
loop-e-preserved c =
    let a = c.args in
    more _ a.s (search rules) c.loop-e.invariant c.range_column.result (search rules)
    (c.range_column.ensures ∙ ap (λ (m : Limits). range_column m (cells (get_or c.loop-e.column-items c.loop-e.e blank))) c.limits_for.ensures)

pub returns : goal.returns
unfolding range
returns c = whole _ _ (search rules) c.loop-e.invariant (search rules)
