-- The table of limit rows: what a row stands for, and which limits it has to be.
-- Assumes nothing.
use Rattle.std.specs.Prelude.{List, ℕ, ℤ, pos, ◌/◌, ◌%◌, eqb, get_or}
use Rattle.quality.specs.Limits.{Limits, limits}

-- a row of four numbers: "min2, min1, max1, max2"
abbrev pub of_row : List ℤ → Limits
of_row l =
    record {
      min2 = get_or l 0 (pos 0);
      min1 = get_or l 1 (pos 0);
      max1 = get_or l 2 (pos 0);
      max2 = get_or l 3 (pos 0);
    }

-- the i-th row: element by element, of each lowland cold, lowland warm, hill cold, hill warm
abbrev pub row_limits : ℕ → Limits
row_limits i = limits (i / 4) (i / 2 % 2) (eqb (i % 2) 1)
