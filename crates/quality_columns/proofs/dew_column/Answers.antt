-- `quality_columns::dew_column` meets its contract.
use mathlib.Core.Path.{◌∙◌}
use borrow.Author.Rules.{rules}
use Rattle.laws.proofs.Calls.{tabled}
use Rattle.quality.specs.Cell.{none, slot}
use Rattle.quality.specs.Coded.{cells}
use Rattle.quality.specs.Steps.{dew_cell, dew_column}
use Rattle.quality_columns.proofs.dew_column.Goals as goal

pub returns : goal.returns
unfolding dew_column
returns c =
    let a = c.args in
    c.of.ensures ∙ tabled _ _ (λ k. dew_cell (slot (cells a.t) k) (slot (cells a.d) k)) 9 (λ k l r q s. search rules) _ none c.from_fn.ensures.items
