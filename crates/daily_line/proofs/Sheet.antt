-- What the code shows of a column, said of the sheet's column of that element.
-- Assumes nothing.
use mathlib.Core.Path.{◌≡◌, sym, ◌∙◌, ap₂, subst}
use mathlib.Core.List.{List}
use Prim.Native.Nat.{ℕ, ◌<◌}
use lib.ListN.{length, get_or}
use Rattle.quality.specs.declared.column.Column.{Column}
use Rattle.quality.specs.Cell.{Cell}
use Rattle.quality.specs.Elements.{column}
use Rattle.quality.specs.Coded.{cells, sheet}
use Rattle.quality.proofs.Sheets.{column_sheet}
use Rattle.daily.specs.declared.Mean.{Mean}
use Rattle.daily.specs.Means.{average, vapour_column}
use Rattle.daily.specs.Coded.{SaysMean}

module _ (s : List Column) (long : length s ≡ 9) where
  pub col : (e : ℕ) (z : Column) → e < 9 → cells (get_or s e z) ≡ column (sheet s) e
  col e z h = sym (column_sheet s e z (subst (λ (n : ℕ). e < n) (sym long) h))

  pub says_column : {r : Mean} (e : ℕ) (z : Column) → e < 9 → SaysMean r (average (cells (get_or s e z))) → SaysMean r (average (column (sheet s) e))
  says_column {r} e z h = subst (λ (xs : List Cell). SaysMean r (average xs)) (col e z h)

  pub says_vapour : {r : Mean} (t d : ℕ) (y z v : Column) → t < 9 → d < 9 → cells v ≡ vapour_column (cells (get_or s t y)) (cells (get_or s d z))
      → SaysMean r (average (cells v)) → SaysMean r (average (vapour_column (column (sheet s) t) (column (sheet s) d)))
  says_vapour {r} t d y z v g h q m = subst (λ (xs : List Cell). SaysMean r (average xs)) (q ∙ ap₂ vapour_column (col t y g) (col d z h)) m
