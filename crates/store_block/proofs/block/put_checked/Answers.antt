-- `store_block::block::put_checked` meets its contract. The loop's invariant: what is read of the block has the column's cells put so far.
use mathlib.Core.Path.{◌∙◌, ap}
use Rattle.quality.specs.Cell.{none}
use Rattle.store_layout.specs.Layout.{decode_block}
use Rattle.store_numbers.specs.declared.area.Area.TheVariants.{Checked}
use Rattle.store_numbers.specs.Areas.{with_cell}
use Rattle.store_block.proofs.Filling.{begun, more, whole_list}
use Rattle.store_numbers.proofs.Sheets.{nine_cells, nine_columns, column_own, column_cell}
use Rattle.quality.specs.Coded.{cells}
use Rattle.quality.proofs.Columns.{length_cells}
use borrow.Author.Rules.{rules}
use Rattle.store_block.proofs.block.put_checked.Goals as goal

pub loop-k-init : goal.loop-k-init
loop-k-init c = let a = c.args in
    begun _ _ none _ _ (search rules) (nine_cells Checked a.block.now a.element (search rules)) (column_own Checked _ _)

pub loop-k-preserved : goal.loop-k-preserved
loop-k-preserved c =
    let h = c.loop-k.invariant in
    let p = c.put_cell in
    let b = c.args.block.now in
    more h _ _ (search rules) (search rules) c.at.ensures
    (p.ensures ∙ ap (with_cell Checked _ _ _) h.reads ∙ column_cell Checked _ _ h.xs _ (decode_block b) (rw (nine_columns Checked b) (search rules)))

pub returns : goal.returns
returns c = whole_list (cells c.args.c) c.loop-k.invariant (search rules) (length_cells _)
