-- A cell, as document 01's "The store" and S-2 have it: state, flag and value.
-- Assumes nothing.
use Rattle.std.specs.Prelude.{Bool, not, ◌&&◌, List, ℕ, eqb, ℤ, pos, get_or}
use Rattle.std.specs.Int.Signed.{le_z}
use Rattle.quality.specs.declared.column.Cell as code

-- States: 0 missing, 1 read, 2 corrected, 3 filled, 4 a humidity. Flags: 0 none, 1 range, 2 internal, 3 time, 4 suspect.
abbrev pub Cell : Type 0
Cell = code.Cell

-- "Missing" means that there is no value: state 0
abbrev pub missing : Cell → Bool
missing c = eqb c.state 0

-- there, or present: it has one
abbrev pub there : Cell → Bool
there c = not (missing c)

-- S-2: a humidity in percent in the place of a dew point, "with the new state 4 (value 1 to 100)"
abbrev pub is_humidity : Cell → Bool
is_humidity c = eqb c.state 4

-- 1 to 100
abbrev pub is_percent : ℤ → Bool
is_percent z = le_z (pos 1) z && le_z z (pos 100)

-- "Discard means: missing, with the flag."
abbrev pub discarded : ℕ → Cell
discarded f = record { state = 0; flag = f; value = pos 0 }

-- the same cell with another flag: "a later flag replaces an earlier one"
abbrev pub flagged : ℕ → Cell → Cell
flagged f c = record { state = c.state; flag = f; value = c.value }

-- a missing cell with no flag, as opening leaves it
abbrev pub none : Cell
none = discarded 0

-- A column: the nine cells of one element, slot by slot. Its cell at slot k
abbrev pub slot : List Cell → ℕ → Cell
slot xs k = get_or xs k none
