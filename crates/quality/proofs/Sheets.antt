-- Laws of sheets: the column of an element, a column put in its place, and a table over the columns.
-- Assumes nothing.
use mathlib.Core.Path.{◌≡◌, sym, ap}
use mathlib.Core.List.{List, []}
use Prim.Native.Nat.{ℕ, ◌<◌}
use lib.ListN.{length, get_or, set, length-map}
use Rattle.laws.proofs.Maps.{map_set, map_at}
use Rattle.quality.specs.declared.column.Column.{Column}
use Rattle.laws.specs.Table.{table}
use Rattle.laws.proofs.Tables.{table_ext}
use Rattle.quality.specs.Cell.{Cell}
use Rattle.quality.specs.Elements.{column}
use Rattle.quality.specs.Coded.{cells, sheet}

pub sheet_set : (s : List Column) (e : ℕ) (c : Column) → sheet (set s e c) ≡ set (sheet s) e (cells c)
sheet_set s e c = map_set cells s e c

pub column_sheet : (s : List Column) (e : ℕ) (d : Column) → e < length s → column (sheet s) e ≡ cells (get_or s e d)
column_sheet s e d h = map_at cells s e d [] h

pub length_sheet : (s : List Column) → length (sheet s) ≡ length s
length_sheet s = length-map s cells

-- no column: what is read past the end of a list of them
abbrev pub blank : Column
blank = record { values = []; states = []; flags = [] }

-- a table made of the columns' cells, by their place, is one made of the sheet's
pub table_sheet : (f : ℕ → List Cell → List Cell) (s : List Column) → length s ≡ 9 → table 9 (λ e. f e (cells (get_or s e blank))) ≡ table 9 (λ e. f e (column (sheet s) e))
table_sheet f s long = table_ext 9 _ _ (λ e h. ap (f e) (sym (column_sheet s e blank (rw long h))))
