-- `daily_line::vapours::vapour_column` meets its contract.
use mathlib.Core.List.{List}
use mathlib.Core.Path.{◌≡◌, ◌∙◌, ap}
use borrow.Author.Rules.{rules}
use lib.IntN.{pos}
use lib.ListN.{get_or}
use Rattle.std.specs.Prelude.{None}
use Rattle.laws.proofs.Calls.{callable, mapped, tabled}
use Rattle.laws.proofs.Tables.{get_d_table, table_ext}
use Rattle.vapour.specs.Vapour.{pressure}
use Rattle.quality.specs.Cell.{Cell, none, slot}
use Rattle.quality.specs.Coded.{cells}
use Rattle.quality.specs.Elements.{dew_point}
use Rattle.quality.specs.Valid.{ValidCell}
use Rattle.daily.specs.Means.{basis, vapour_at, vapour_column}
use Rattle.daily_line.proofs.Lookup.{at_slot}
use Rattle.daily_line.proofs.vapours.vapour_column.Goals as goal

pub from_fn-requires : goal.from_fn-requires
from_fn-requires c = (
  search rules,
  callable _ _ 9 (λ p k r q s. search rules)
      (λ k l.
      let v : ValidCell dew_point (slot (cells c.args.d) k) = c.requires.each k l in
      let p : get_or c.pressures-pressures.result k None ≡ pressure (slot c.from_fn-bases.result k).value =
      at_slot c.from_fn-bases.result c.map.result c.pressures-pressures.result k None
      (mapped _ _ (λ (b : Cell). b.value) (λ x r q s. search rules) c.from_fn-bases.result c.map.result none (pos 0) 9 (search rules) c.map.ensures.items)
      c.pressures-pressures.ensures (search rules) in
      search rules),
)

pub returns : goal.returns
unfolding vapour_column
returns c =
    let ts = cells c.args.t in
    let ds = cells c.args.d in
    c.of.ensures
    ∙ tabled _ _ (λ k. vapour_at (slot c.from_fn-bases.result k) (slot ds k)) 9 (λ k l r q s. search rules) _ none c.from_fn.ensures.items
    ∙ table_ext 9 _ _
    (λ k l.
    ap (λ (b : Cell). vapour_at b (slot ds k))
    (ap (λ (xs : List Cell). slot xs k) (tabled _ _ (λ k. basis (slot ts k) (slot ds k)) 9 (λ k l r q s. search rules) _ none c.from_fn-bases.ensures.items)
    ∙ get_d_table 9 _ k none l))
