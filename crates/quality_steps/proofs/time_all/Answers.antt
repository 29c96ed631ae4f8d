-- `quality_steps::time_all` meets its contract. The loop's invariant: the columns timed so far.
use mathlib.Core.Path.{◌∙◌, sym, subst}
use borrow.Author.Rules.{rules}
use borrow.Author.Tests.{le-leb, lt-leb}
use lib.ListN.{get_or}
use Rattle.laws.proofs.Bools.{took, cond_false}
use Rattle.quality.specs.Coded.{sheet}
use Rattle.quality.specs.Elements.{column}
use Rattle.quality.specs.Settled.{time_of, time}
use Rattle.quality.specs.Valid.{Sized}
use Rattle.quality.proofs.Sheets.{blank}
use Rattle.quality.proofs.Validity.{column_sized}
use Rattle.quality_steps.proofs.Changing.{begun, old, more, whole}
use Rattle.quality_steps.proofs.time_all.Goals as goal
use Rattle.quality_steps.proofs.time_all.Goals.{then-e-le2, else-e-le2}

pub time_column-requires : goal.time_column-requires
time_column-requires c =
    let s = c.args.s in
    let e = c.loop-e.e in
    subst Sized (old _ s (search rules) c.loop-e.invariant (search rules)) (column_sized (column (sheet s) e) (c.requires.each e (search rules)))

pub loop-e-init : goal.loop-e-init
loop-e-init c = begun _ _ (search rules)

pub loop-e-preserved : goal.loop-e-preserved
unfolding time_of
loop-e-preserved c =
    let s = c.args.s in
    elim c.if-e-le2.branch [
      | then-e-le2 w ↦ rw w.column-items-is (more _ s (search rules) c.loop-e.invariant w.time_column.result (search rules) (w.time_column.ensures ∙ took _ _ _ (le-leb _ _ w.if-e-le2.true)))
      | else-e-le2 w ↦ rw w.column-items-is (more _ s (search rules) c.loop-e.invariant (get_or c.loop-e.column-items c.loop-e.e blank) (search rules) (sym (cond_false _ _ _ (lt-leb _ _ w.if-e-le2.false))))
    ]

pub returns : goal.returns
unfolding time
returns c = whole _ _ (search rules) c.loop-e.invariant (search rules)
