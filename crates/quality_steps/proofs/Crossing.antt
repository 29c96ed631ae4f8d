-- The internal step on the code's columns: two of them replaced, and two more where the extremes cross.
-- Assumes nothing.
use mathlib.Core.Path.{◌≡◌, sym, ◌∙◌, ap, ap₂, subst}
use mathlib.Core.Bool.{true, false}
use mathlib.Core.List.{List}
use Prim.Native.Nat.{ℕ, ◌<◌}
use lib.Dec.{lit<}
use lib.ListN.{length, get_or, set}
use Rattle.laws.proofs.Bools.{took, cond_false}
use Rattle.quality.specs.declared.column.Column.{Column}
use Rattle.quality.specs.Cell.{Cell, slot}
use Rattle.quality.specs.Elements.{column, temperature, dew_point, wind, maximum, minimum}
use Rattle.quality.specs.Steps.{dew_column, wind_column, maximum_below_minimum, suspect_at}
use Rattle.quality.specs.Settled.{internal}
use Rattle.quality.specs.Coded.{cells, sheet}
use Rattle.quality.proofs.Sheets.{sheet_set, column_sheet}

module _ (dd : List ℕ) (s : List Column) (z d w : Column) (long : length s ≡ 9)
    (hd : cells d ≡ dew_column (cells (get_or s 0 z)) (cells (get_or s 1 z))) (hw : cells w ≡ wind_column dd (cells (get_or s 3 z))) where
  col : (e : ℕ) → e < 9 → cells (get_or s e z) ≡ column (sheet s) e
  col e h = sym (column_sheet s e z (subst (λ (n : ℕ). e < n) (sym long) h))

  base : sheet (set (set s 1 d) 3 w) ≡
      set (set (sheet s) dew_point (dew_column (column (sheet s) temperature) (column (sheet s) dew_point))) wind (wind_column dd (column (sheet s) wind))
  base =
      sheet_set (set s 1 d) 3 w
      ∙ ap₂ (λ (t : List (List Cell)) (y : List Cell). set t 3 y)
      (sheet_set s 1 d ∙ ap (set (sheet s) 1) (hd ∙ ap₂ dew_column (col 0 (lit< tt)) (col 1 (lit< tt))))
      (hw ∙ ap (wind_column dd) (col 3 (lit< tt)))

  test : maximum_below_minimum (slot (cells (get_or s 7 z)) 4) (slot (cells (get_or s 8 z)) 0) ≡ maximum_below_minimum (slot (column (sheet s) maximum) 4) (slot (column (sheet s) minimum) 0)
  test = ap₂ (λ (x m : List Cell). maximum_below_minimum (slot x 4) (slot m 0)) (col 7 (lit< tt)) (col 8 (lit< tt))

  -- the extremes do not cross
  pub apart : maximum_below_minimum (slot (cells (get_or s 7 z)) 4) (slot (cells (get_or s 8 z)) 0) ≡ false → sheet (set (set s 1 d) 3 w) ≡ internal dd (sheet s)
  unfolding internal
  apart h = base ∙ sym (cond_false _ _ _ (sym test ∙ h))

  -- they cross: both suspect
  pub crossing : (x m : Column) → maximum_below_minimum (slot (cells (get_or s 7 z)) 4) (slot (cells (get_or s 8 z)) 0) ≡ true
      → cells x ≡ suspect_at 4 (cells (get_or s 7 z)) → cells m ≡ suspect_at 0 (cells (get_or s 8 z))
      → sheet (set (set (set (set s 1 d) 3 w) 7 x) 8 m) ≡ internal dd (sheet s)
  unfolding internal
  crossing x m h hx hm =
      sheet_set (set (set (set s 1 d) 3 w) 7 x) 8 m
      ∙ ap₂ (λ (t : List (List Cell)) (y : List Cell). set t 8 y)
      (sheet_set (set (set s 1 d) 3 w) 7 x ∙ ap₂ (λ (t : List (List Cell)) (y : List Cell). set t 7 y) base (hx ∙ ap (suspect_at 4) (col 7 (lit< tt))))
      (hm ∙ ap (suspect_at 0) (col 8 (lit< tt)))
      ∙ took _ _ _ (sym test ∙ h)
