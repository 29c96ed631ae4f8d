-- `quality::column::Column::of` meets its contract: each number of the nine cells in its array.
use borrow.Author.Rules.{rules}
use lib.IntN.{pos}
use Rattle.laws.proofs.Calls.{mapped}
use Rattle.quality.specs.Cell.{Cell, none}
use Rattle.quality.proofs.Columns.{cells_of}
use Rattle.quality.proofs.column.Column.of.Goals as goal

pub returns : goal.returns
returns c =
    let xs = c.args.nine in
    cells_of _ xs (search rules)
    (mapped _ _ (λ (d : Cell). d.value) (λ x r q k. search rules) xs c.map.result none (pos 0) 9 (search rules) c.map.ensures.items)
    (mapped _ _ (λ (d : Cell). d.state) (λ x r q k. search rules) xs c.map-2.result none 0 9 (search rules) c.map-2.ensures.items)
    (mapped _ _ (λ (d : Cell). d.flag) (λ x r q k. search rules) xs c.map-3.result none 0 9 (search rules) c.map-3.ensures.items)
