-- `daily_line::day_line` meets its contract.
use mathlib.Core.List.{List}
use mathlib.Core.Path.{◌∙◌, ◌≡◌, sym, ap, subst}
use borrow.Author.Rules.{rules}
use lib.Dec.{lit<}
use lib.ListN.{length}
use Rattle.quality.specs.Cell.{Cell}
use Rattle.quality.specs.Elements.{dew_point}
use Rattle.quality.specs.Valid.{ValidColumn}
use Rattle.daily.specs.Extremes.{coldest, warmest}
use Rattle.daily.specs.Line.{day_line}
use Rattle.daily.specs.Rain.{rain_total}
use Rattle.daily_line.proofs.Sheet.{col, says_column, says_vapour}
use Rattle.daily_line.proofs.day_line.Goals as goal

pub vapour_column-requires : goal.vapour_column-requires
vapour_column-requires c =
    let long : length c.args.checked ≡ 9 = search rules in
    subst (ValidColumn dew_point) (sym (col c.args.checked long 1 _ (lit< tt))) (c.requires.each 1 (lit< tt))

pub returns : goal.returns
unfolding day_line
returns c =
    let a = c.args in
    let long : length a.checked ≡ 9 = search rules in
    record {
      temperature = says_column a.checked long 0 _ (lit< tt) c.mean.ensures;
      dew_point = says_column a.checked long 1 _ (lit< tt) c.mean-2.ensures;
      pressure = says_column a.checked long 2 _ (lit< tt) c.mean-3.ensures;
      wind = says_column a.checked long 3 _ (lit< tt) c.mean-4.ensures;
      cloud = says_column a.checked long 4 _ (lit< tt) c.mean-5.ensures;
      vapour = says_vapour a.checked long 0 1 _ _ _ (lit< tt) (lit< tt) c.vapour_column.ensures c.mean-6.ensures;
      rain = c.rain_total.ensures ∙ ap (λ (xs : List Cell). rain_total a.heads xs) (col a.checked long 6 _ (lit< tt));
      warmest = c.warmest.ensures ∙ ap (λ (xs : List Cell). warmest xs) (col a.checked long 0 _ (lit< tt));
      coldest = c.coldest.ensures ∙ ap (λ (xs : List Cell). coldest xs) (col a.checked long 0 _ (lit< tt));
      read = c.count.ensures;
      corrected = c.count-2.ensures;
      filled = c.count-3.ensures;
      missing = c.count-4.ensures;
    }
