-- `engine_filing::placing::put_filed` meets its contract.
use native.Mathlib.Omega.{arith}
use borrow.Author.Rules.{rules}
use Rattle.synop.specs.Contents.{listed}
use Rattle.engine_answers.proofs.Stores.{known, at_index, entry, part_block, back_at_index, written}
use Rattle.engine_filing.proofs.Placed.{filed_as}
use Rattle.engine_filing.proofs.placing.put_filed.Goals as goal

pub reported-requires : goal.reported-requires
reported-requires c =
    let o = c.requires.station in
    omega (arith, c.settled_of-settled.ensures, (entry o).settled_most)

pub set_settled-requires : goal.set_settled-requires
set_settled-requires c =
    let o = c.requires.station in
    let b = c.put_report in
    back_at_index o c.block_start-a.ensures.0 b.new.block b.auto.block

pub returns : goal.returns
returns c =
    let x = c.args in
    let o = c.requires.station in
    let p = c.block_start-a.ensures.0 in
    let b = c.put_report in
    written o p b.new.block b.auto.block c.set_settled.ensures (search rules) (known (λ k. search rules))
    (filed_as x.k x.f.rank x.f.indicators (listed x.f.values) _ c.settled_of-settled.ensures c.reported.ensures (part_block o p) b.ensures)

pub settled_of-settled-requires : goal.settled_of-settled-requires
settled_of-settled-requires c = at_index c.requires.station

pub block_start-a-requires : goal.block_start-a-requires
block_start-a-requires c = at_index c.requires.station
