-- Which cells, columns and sheets a sound store may hold (document 01, "The store"; S-2).
-- Assumes nothing.
use Rattle.std.specs.Prelude.{◌≡◌, Bool, true, not, ◌&&◌, ◌||◌, List, ℕ, ◌≤◌, ◌<◌, eqb, leb, nat_abs, length}
use Rattle.quality.specs.Cell.{Cell, missing, is_humidity, is_percent, slot}
use Rattle.quality.specs.Elements.{column, dew_point}
use Rattle.quality.specs.Steps.{is_zero}

-- S-2: "A humidity is kept in D's cell, and there alone, with the new state 4 (value 1 to 100)"
abbrev pub holds_humidity : ℕ → Cell → Bool
holds_humidity e c = eqb e dew_point && is_humidity c && is_percent c.value

-- "state and flag (a byte each), value (16 bits, signed, −32767 to 32767). States: 0 missing (value 0), .."
-- A cell of element e, with the largest state but a humidity's, and the largest flag, that may stand there; one rule for all elements
unfoldable pub is_cell : ℕ → ℕ → ℕ → Cell → Bool
is_cell states flags e c =
    (leb c.state states || holds_humidity e c)
    && leb c.flag flags
    && leb (nat_abs c.value) 32767
    && (not (missing c) || is_zero c.value)

pub record CellWithin (states flags e : ℕ) (c : Cell) : Type 0 where
  pub test : is_cell states flags e c ≡ true

-- nine such cells of element e
pub record ColumnWithin (states flags e : ℕ) (xs : List Cell) : Type 0 where
  pub long : length xs ≡ 9
  pub each : (k : ℕ) → k < 9 → CellWithin states flags e (slot xs k)

-- nine such columns
pub record SheetWithin (states flags : ℕ) (s : List (List Cell)) : Type 0 where
  pub long : length s ≡ 9
  pub each : (e : ℕ) → e < 9 → ColumnWithin states flags e (column s e)

-- "States: .. 3 filled. Flags: 0 none, .. 4 suspect."
abbrev pub ValidCell : ℕ → Cell → Type 0
ValidCell = CellWithin 3 4

abbrev pub ValidColumn : ℕ → List Cell → Type 0
ValidColumn = ColumnWithin 3 4

abbrev pub ValidSheet : List (List Cell) → Type 0
ValidSheet = SheetWithin 3 4

-- "Raw cells have state 0 or 1, flag 0." A humidity too has flag 0
abbrev pub RawCell : ℕ → Cell → Type 0
RawCell = CellWithin 1 0

abbrev pub RawSheet : List (List Cell) → Type 0
RawSheet = SheetWithin 1 0

-- a column without the value −32768, which has no negative
pub record Sized (xs : List Cell) : Type 0 where
  pub each : (k : ℕ) → k < 9 → nat_abs (slot xs k).value ≤ 32767
