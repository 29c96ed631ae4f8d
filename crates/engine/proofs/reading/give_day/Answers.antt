-- `engine::reading::give_day` meets its contract.
use mathlib.Core.Path.{sym, ◌∙◌, ap, ap₂, subst}
use borrow.Author.Tests.{eq-eqb, ne_eqb}
use Rattle.quality.specs.Valid.{ValidSheet}
use Rattle.store_layout.specs.Model.{Block}
use Rattle.daily.specs.Line.{day_line}
use Rattle.daily.specs.Coded.{Says}
use Rattle.rules.specs.Rules.{day_of}
use Rattle.engine_answers.proofs.Stores.{at_index, valid_station}
use Rattle.engine.proofs.reading.give_day.Goals as goal

pub day_line-requires : goal.day_line-requires
day_line-requires c =
    let o = c.requires in
    subst ValidSheet (sym (c.sheet_of-checked.ensures ∙ ap (λ (x : Block). x.checked) c.block_of-block.ensures))
    (valid_station o).block.checked

pub returns : goal.returns
unfolding day_of
returns c =
    let o = c.requires in
    let e = c.block_of-block.ensures in
    rw (eq-eqb _ 1 (sym c.settled_of.ensures ∙ c.if-settled_of-ne1.false))
    (subst (Says _) (ap₂ day_line (c.heads_of-heads.ensures ∙ ap (λ (x : Block). x.heads) e) (c.sheet_of-checked.ensures ∙ ap (λ (x : Block). x.checked) e)) c.day_line.ensures)

pub settled_of-requires : goal.settled_of-requires
unfolding day_of
settled_of-requires c = at_index c.requires

pub returns-then-settled_of-ne1 : goal.returns-then-settled_of-ne1
unfolding day_of
returns-then-settled_of-ne1 c = rw (ne_eqb _ 1 (λ q. c.if-settled_of-ne1.true (c.settled_of.ensures ∙ q)))

pub block_of-block-requires : goal.block_of-block-requires
unfolding day_of
block_of-block-requires c = at_index c.requires
