-- "Counts of the 81 checked cells in states 1, 2, 3, 0." S-2: state 4 "counts as read in the day line".
-- Assumes nothing.
use Rattle.std.specs.Prelude.{Bool, cond, ◌&&◌, ◌||◌, List, ℕ, zero, suc, ◌+◌, eqb}
use Rattle.quality.specs.Cell.{Cell, slot}
use Rattle.quality.specs.Elements.{column}

-- a cell in that state counts under s: under its own, and a humidity's under 1
abbrev pub counts_under : ℕ → ℕ → Bool
counts_under s state = eqb state s || (eqb state 4 && eqb s 1)

-- cells that count under s among the first n of a column
unfoldable pub in_column : ℕ → List Cell → ℕ → ℕ
in_column s xs zero = 0
in_column s xs (suc n) = in_column s xs n + cond (counts_under s (slot xs n).state) 1 0

-- among the first n columns of a sheet
unfoldable pub in_sheet : ℕ → List (List Cell) → ℕ → ℕ
in_sheet s sheet zero = 0
in_sheet s sheet (suc n) = in_sheet s sheet n + in_column s (column sheet n) 9

abbrev pub count : ℕ → List (List Cell) → ℕ
count s sheet = in_sheet s sheet 9
