-- What the code's columns stand for: a `Column` is nine cells, their values, states and flags in three arrays.
-- Assumes nothing.
use Rattle.std.specs.Prelude.{List, map, pos, get_or}
use Rattle.laws.specs.Table.{table}
use Rattle.quality.specs.declared.column.Column.{Column}
use Rattle.quality.specs.Cell.{Cell}

unfoldable pub cells : Column → List Cell
cells c = table 9 (λ k. record { state = get_or c.states k 0; flag = get_or c.flags k 0; value = get_or c.values k (pos 0) })

abbrev pub sheet : List Column → List (List Cell)
sheet cs = map cells cs
