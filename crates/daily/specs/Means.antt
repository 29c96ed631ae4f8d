-- "Means of T, D, P, W, C and of vapour pressure over slots 0 to 7."
-- Assumes nothing.
use Rattle.std.specs.Prelude.{Bool, not, cond, ◌||◌, List, ℕ, zero, suc, ◌+◌, ◌*◌, ◌/◌, eqb, ℤ, pos, nat_abs, ◌+ℤ◌, Option, None, Some}
use Rattle.laws.specs.All.{all}
use Rattle.laws.specs.Table.{table}
use Rattle.vapour.specs.Vapour.{pressure}
use Rattle.quality.specs.Cell.{Cell, missing, is_humidity, discarded, slot}
use Rattle.quality.specs.Steps.{passed_over}

-- "Each mean is absent, fully read or partly mended, the last two with a float: the eightfold sum times 0.125": with the eightfold sum
pub data Average : Type 0 where
  absent : Average
  read : ℤ → Average
  mended : ℤ → Average

-- the values of the first n slots added
unfoldable pub sum : List Cell → ℕ → ℤ
sum xs zero = pos 0
sum xs (suc n) = sum xs n +ℤ (slot xs n).value

-- "The eightfold sum is the eight slots' values added."
abbrev pub eightfold : List Cell → ℤ
eightfold xs = sum xs 8

-- a corrected or filled cell: "state 2 or 3"
abbrev pub repaired : Cell → Bool
repaired c = eqb c.state 2 || eqb c.state 3

-- "Any missing: absent; any state 2 or 3: partly mended". S-2: "D's mean is absent if one of slots 0 to 7 has" a humidity
unfoldable pub average : List Cell → Average
average xs =
    cond (all (λ k. not (passed_over (slot xs k))) 8)
    (cond (all (λ k. not (repaired (slot xs k))) 8) (read (eightfold xs)) (mended (eightfold xs)))
    absent

-- the cell at whose value the table is read, D's; S-2: "e being the table's entry at the slot's checked T" where D's is a humidity
abbrev pub basis : Cell → Cell → Cell
basis t d = cond (is_humidity d) t d

-- S-2: "Its vapour pressure is floor((e·UUU + 50) / 100)"
abbrev pub share : Cell → ℕ → ℕ
share d e = cond (is_humidity d) ((e * nat_abs d.value + 50) / 100) e

-- the vapour pressure of a slot with D's cell d, the table being read at b's value: missing where b is, or lies outside the table; else it has
-- b's state ("vapour takes D's state"; S-2: "mended for the vapour mean if T's state is 2 or 3")
abbrev pub vapour_at : Cell → Cell → Cell
vapour_at b d = cond (missing b) (discarded 0) (of (pressure b.value))
  where
    of : Option ℕ → Cell
    of None = discarded 0
    of (Some e) = record { state = b.state; flag = b.flag; value = pos (share d e) }

-- of a slot with those T and D
abbrev pub vapour_cell : Cell → Cell → Cell
vapour_cell t d = vapour_at (basis t d) d

unfoldable pub vapour_column : List Cell → List Cell → List Cell
vapour_column ts ds = table 9 (λ k. vapour_cell (slot ts k) (slot ds k))
