-- `quality_steps::fill_all` meets its contract. The loop's invariant: the columns filled so far.
use mathlib.Core.Path.{◌∙◌, sym}
use borrow.Author.Rules.{rules}
use borrow.Author.Tests.{le-leb, lt-leb}
use lib.ListN.{get_or}
use Rattle.laws.proofs.Bools.{took, cond_false}
use Rattle.quality.specs.Settled.{fill_of, fill}
use Rattle.quality.proofs.Sheets.{blank}
use Rattle.quality_steps.proofs.Changing.{begun, more, whole}
use Rattle.quality_steps.proofs.fill_all.Goals as goal
use Rattle.quality_steps.proofs.fill_all.Goals.{then-e-le3, else-e-le3}

pub loop-e-init : goal.loop-e-init
loop-e-init c = begun _ _ (search rules)

pub loop-e-preserved : goal.loop-e-preserved
unfolding fill_of
loop-e-preserved c =
    let s = c.args.s in
    elim c.if-e-le3.branch [
      | then-e-le3 w ↦ rw w.column-items-is (more _ s (search rules) c.loop-e.invariant w.fill_column.result (search rules) (w.fill_column.ensures ∙ took _ _ _ (le-leb _ _ w.if-e-le3.true)))
      | else-e-le3 w ↦ rw w.column-items-is (more _ s (search rules) c.loop-e.invariant (get_or c.loop-e.column-items c.loop-e.e blank) (search rules) (sym (cond_false _ _ _ (lt-leb _ _ w.if-e-le3.false))))
    ]

pub returns : goal.returns
unfolding fill
returns c = whole _ _ (search rules) c.loop-e.invariant (search rules)
