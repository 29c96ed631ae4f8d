-- `engine_settling::portions::begin_at` meets its contract.
use borrow.Author.Rules.{rules}
use lib.Dec.{lit<}
use Rattle.engine_answers.proofs.Stores.{known, at_index, part_block, back_at_index, written}
use Rattle.engine_settling.proofs.PortionLaws.{begun_as}
use Rattle.engine_settling.proofs.portions.begin_at.Goals as goal

pub set_settled-requires : goal.set_settled-requires
set_settled-requires c =
    let o = c.requires in
    let b = c.begin_block in
    back_at_index o c.block_start-a.ensures.0 b.new.block b.auto.block

pub returns : goal.returns
returns c =
    let o = c.requires in
    let p = c.block_start-a.ensures.0 in
    let b = c.begin_block in
    written o p b.new.block b.auto.block {v = 2} c.set_settled.ensures (lit< tt) (known (λ k. search rules))
    (begun_as _ (part_block o p) b.ensures)

pub block_start-a-requires : goal.block_start-a-requires
block_start-a-requires c = at_index c.requires
