-- `quality_steps::internal_all` meets its contract.
use mathlib.Core.Path.{◌∙◌, ap₂}
use borrow.Author.Rules.{rules}
use Rattle.laws.proofs.Bools.{via}
use Rattle.quality.specs.Steps.{maximum_below_minimum}
use Rattle.quality_steps.proofs.Crossing as Crossing
use Rattle.quality_steps.proofs.internal_all.Goals as goal

pub returns-then-maximum_below_minimum : goal.returns-then-maximum_below_minimum
returns-then-maximum_below_minimum c =
    Crossing.crossing _ c.args.s _ _ _ (search rules) c.dew_column.ensures c.wind_column.ensures _ _
    (via (c.maximum_below_minimum.ensures ∙ ap₂ maximum_below_minimum c.at.ensures c.at-2.ensures) c.if-maximum_below_minimum.true)
    c.suspect_at.ensures c.suspect_at-then-maximum_below_minimum.ensures

pub returns : goal.returns
returns c =
    Crossing.apart _ c.args.s _ _ _ (search rules) c.dew_column.ensures c.wind_column.ensures
    (via (c.maximum_below_minimum.ensures ∙ ap₂ maximum_below_minimum c.at.ensures c.at-2.ensures) c.if-maximum_below_minimum.false)
