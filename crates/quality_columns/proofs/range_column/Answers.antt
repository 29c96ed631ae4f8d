-- `quality_columns::range_column` meets its contract.
use mathlib.Core.Path.{◌∙◌}
use borrow.Author.Rules.{rules}
use Rattle.laws.proofs.Calls.{tabled}
use Rattle.quality.specs.Cell.{none, slot}
use Rattle.quality.specs.Coded.{cells}
use Rattle.quality.specs.Steps.{range_cell, range_column}
use Rattle.quality_columns.proofs.range_column.Goals as goal

pub returns : goal.returns
unfolding range_column
returns c =
    let a = c.args in
    c.of.ensures ∙ tabled _ _ (λ k. range_cell a.l (slot (cells a.c) k)) 9 (λ k l r q s. search rules) _ none c.from_fn.ensures.items
