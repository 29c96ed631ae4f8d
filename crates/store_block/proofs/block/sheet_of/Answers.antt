-- `store_block::block::sheet_of` meets its contract. The loop's invariant: the columns read so far.
use mathlib.Core.List.{[]}
use mathlib.Core.Path.{refl, sym, ◌∙◌}
use borrow.Author.Rules.{rules}
use Rattle.laws.proofs.Fill.{none as empty, more, whole}
use Rattle.laws.proofs.Tables.{is_table}
use Rattle.quality.specs.Elements.{column}
use Rattle.quality.proofs.Sheets.{sheet_set}
use Rattle.store_layout.specs.Layout.{decode_block}
use Rattle.store_numbers.specs.Areas.{sheet_in}
use Rattle.store_numbers.proofs.Sheets.{nine_columns}
use Rattle.store_block.proofs.block.sheet_of.Goals as goal

pub loop-element-init : goal.loop-element-init
loop-element-init c = empty _ _ 9 _ refl

pub loop-element-preserved : goal.loop-element-preserved
loop-element-preserved c = rw sheet_set (more _ c.loop-element.invariant (search rules) c.column_of.ensures)

pub returns : goal.returns
returns c =
    let a = c.args in
    let s = sheet_in a.area (decode_block a.block.now) in
    whole c.loop-element.invariant (search rules) ∙ sym (is_table 9 (column s) s [] (nine_columns a.area a.block.now) (λ k l. refl))
