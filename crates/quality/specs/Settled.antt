-- A station's checked cells from its raw ones: "Raw cells are copied to the checked cells, then four steps. Each reads only what the step before left".
-- Assumes nothing.
use Rattle.std.specs.Prelude.{Bool, cond, List, ℕ, leb, eqb, set}
use Rattle.laws.specs.Table.{table}
use Rattle.quality.specs.Cell.{Cell, slot}
use Rattle.quality.specs.Elements.{temperature, dew_point, pressure, wind, maximum, minimum, column}
use Rattle.quality.specs.Limits.{limits}
use Rattle.quality.specs.declared.step.Step.{Step}
use Rattle.quality.specs.declared.step.Step.TheVariants.{Range, Internal, Time, Fill}
use Rattle.quality.specs.Steps.{range_column, dew_column, wind_column, maximum_below_minimum, suspect_at, between, time_cell, fill_cell}

-- 1. Range, on all elements
unfoldable pub range : ℕ → Bool → List (List Cell) → List (List Cell)
range row warm s = table 9 (λ e. range_column (limits e row warm) (column s e))

-- 2. Internal. dds: dd of each slot
unfoldable pub internal : List ℕ → List (List Cell) → List (List Cell)
internal dds s =
    cond (maximum_below_minimum (slot (column s maximum) 4) (slot (column s minimum) 0))
    (set (set base maximum (suspect_at 4 (column s maximum))) minimum (suspect_at 0 (column s minimum)))
    base
  where
    base : List (List Cell)
    base = set (set s dew_point (dew_column (column s temperature) (column s dew_point))) wind (wind_column dds (column s wind))

-- 3. "Time, T, D, P"; "for T" it mends. On the column of element e
unfoldable pub time_of : ℕ → List Cell → List Cell
time_of e xs = cond (leb e pressure) (between (time_cell (eqb e temperature)) xs) xs

unfoldable pub time : List (List Cell) → List (List Cell)
time s = table 9 (λ e. time_of e (column s e))

-- 4. "Fill, T, D, P, W". On the column of element e
unfoldable pub fill_of : ℕ → List Cell → List Cell
fill_of e xs = cond (leb e wind) (between fill_cell xs) xs

unfoldable pub fill : List (List Cell) → List (List Cell)
fill s = table 9 (λ e. fill_of e (column s e))

-- one of the four, on a sheet of a station of that climate row in that season
abbrev pub one_step : Step → ℕ → Bool → List ℕ → List (List Cell) → List (List Cell)
one_step Range row warm dds s = range row warm s
one_step Internal row warm dds s = internal dds s
one_step Time row warm dds s = time s
one_step Fill row warm dds s = fill s

-- the checked sheet of a station of that climate row in that season, from each slot's dd and the raw sheet
unfoldable pub settled : ℕ → Bool → List ℕ → List (List Cell) → List (List Cell)
settled row warm dds raw = fill (time (internal dds (range row warm raw)))
