-- `engine_settling::settle_at` meets its contract.
use mathlib.Core.Path.{◌∙◌, ap}
use native.Mathlib.Omega.{arith}
use lib.Dec.{lit<}
use borrow.Author.Rules.{rules}
use Rattle.quality.specs.Limits as limits
use Rattle.quality.proofs.Validity.{raw_sheet_valid}
use Rattle.engine_answers.proofs.Stores.{known, headed, at_index, valid_station, entry, part_block, back_at_index, written}
use Rattle.engine_settling.proofs.Settled.{settled_as}
use Rattle.engine_settling.proofs.settle_at.Goals as goal

pub settle_block-requires : goal.settle_block-requires
settle_block-requires c =
    let o = c.requires in
    (search rules, rw (part_block o c.block_start-a.ensures.0) (raw_sheet_valid _ (valid_station o).block.raw))

pub set_settled-requires : goal.set_settled-requires
set_settled-requires c =
    let o = c.requires in
    let b = c.settle_block in
    back_at_index o c.block_start-a.ensures.0 b.new.block b.auto.block

pub returns : goal.returns
returns c =
    let o = c.requires in
    let p = c.block_start-a.ensures.0 in
    let b = c.settle_block in
    written o p b.new.block b.auto.block {v = 1} c.set_settled.ensures (lit< tt) (known (λ k. search rules))
    (settled_as _ _ (c.climate_of-climate.ensures ∙ c.row_of.ensures) (c.season_of-season.ensures ∙ ap limits.warm c.date_of.ensures.1)
    (part_block o p) b.ensures)

pub date_of-requires : goal.date_of-requires
date_of-requires c = headed c.requires.good

pub row_of-requires : goal.row_of-requires
row_of-requires c = at_index c.requires

pub block_start-a-requires : goal.block_start-a-requires
block_start-a-requires c = at_index c.requires

pub climate_of-climate-requires : goal.climate_of-climate-requires
climate_of-climate-requires c = omega (arith, (entry c.requires).row_most, c.row_of.ensures)
