-- `quality_columns::wind_column` meets its contract.
use mathlib.Core.Path.{◌∙◌}
use borrow.Author.Rules.{rules}
use lib.ListN.{get_or}
use Rattle.laws.proofs.Calls.{tabled}
use Rattle.quality.specs.Cell.{none, slot}
use Rattle.quality.specs.Coded.{cells}
use Rattle.quality.specs.Steps.{wind_cell, wind_column}
use Rattle.quality_columns.proofs.wind_column.Goals as goal

pub returns : goal.returns
unfolding wind_column
returns c =
    let a = c.args in
    c.of.ensures ∙ tabled _ _ (λ k. wind_cell (get_or a.dd k 0) (slot (cells a.w) k)) 9 (λ k l r q s. search rules) _ none c.from_fn.ensures.items
