-- `engine_settling::portions::portion_at` meets its contract.
use mathlib.Core.Path.{◌∙◌, ap}
use native.Mathlib.Omega.{arith}
use borrow.Author.Rules.{rules}
use Rattle.quality.specs.Limits as limits
use Rattle.engine_answers.proofs.Stores.{known, headed, at_index, valid_station, entry, part_block, back_at_index, written}
use Rattle.engine_settling.proofs.PortionLaws.{portion_as}
use Rattle.engine_settling.proofs.portions.portion_at.Goals as goal

pub step_block-requires : goal.step_block-requires
step_block-requires c =
    let o = c.requires.station in
    (search rules, rw (part_block o c.block_start-a.ensures.0) (valid_station o).block.checked)

pub number_after-requires : goal.number_after-requires
number_after-requires c =
    let o = c.requires in
    omega (arith, o.settled_value, (entry o.station).settled_most)

pub set_settled-requires : goal.set_settled-requires
set_settled-requires c =
    let o = c.requires.station in
    let b = c.step_block in
    back_at_index o c.block_start-a.ensures.0 b.new.block b.auto.block

pub returns : goal.returns
returns c =
    let o = c.requires in
    let p = c.block_start-a.ensures.0 in
    let b = c.step_block in
    written o.station p b.new.block b.auto.block c.set_settled.ensures (search rules) (known (λ k. search rules))
    (portion_as _ _ c.due-step.ensures o.settled_value c.number_after.ensures
    (c.climate_of-climate.ensures ∙ c.row_of.ensures) (c.season_of-season.ensures ∙ ap limits.warm c.date_of.ensures.1)
    (part_block o.station p) b.ensures)

pub date_of-requires : goal.date_of-requires
date_of-requires c = headed c.requires.station.good

pub row_of-requires : goal.row_of-requires
row_of-requires c = at_index c.requires.station

pub block_start-a-requires : goal.block_start-a-requires
block_start-a-requires c = at_index c.requires.station

pub climate_of-climate-requires : goal.climate_of-climate-requires
climate_of-climate-requires c = omega (arith, (entry c.requires.station).row_most, c.row_of.ensures)
