-- `store_block::block::column_of` meets its contract.
use mathlib.Core.Path.{refl, sym, ◌∙◌}
use borrow.Author.Rules.{rules}
use Rattle.laws.proofs.Calls.{tabled}
use Rattle.laws.proofs.Tables.{is_table}
use Rattle.quality.specs.Cell.{none, slot}
use Rattle.quality.specs.Elements.{column}
use Rattle.store_layout.specs.Layout.{decode_block}
use Rattle.store_numbers.specs.Areas.{sheet_in}
use Rattle.store_numbers.proofs.Sheets.{nine_cells}
use Rattle.store_block.proofs.block.column_of.Goals as goal

pub returns : goal.returns
returns c =
    let a = c.args in
    let xs = column (sheet_in a.area (decode_block a.block.now)) a.element in
    c.of.ensures
    ∙ tabled _ _ (slot xs) 9 (λ k l r q s. search rules) _ none c.from_fn.ensures.items
    ∙ sym (is_table 9 (slot xs) xs none (nine_cells a.area a.block.now a.element (search rules)) (λ k l. refl))
