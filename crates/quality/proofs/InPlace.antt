-- A loop over a column that stores a cell in place, its three numbers each in their array: one store of the cell.
--     filled_more      one more turn of a loop that fills the column (`Done`)
--     moved_more       one more turn of a loop over slots 1 to 7 (`Moved`)
-- Assumes nothing.
use mathlib.Core.Path.{◌≡◌}
use mathlib.Core.List.{List}
use Prim.Native.Nat.{ℕ, ◌+◌, ◌-◌, ◌<◌}
use native.Mathlib.Omega.{arith}
use lib.IntN.{ℤ}
use lib.ListN.{set}
use Rattle.laws.proofs.Fill.{Done}
use Rattle.laws.proofs.Fill as Fill
use Rattle.quality.specs.declared.column.Column.{Column}
use Rattle.quality.specs.Cell.{Cell, none, slot}
use Rattle.quality.specs.Coded.{cells}
use Rattle.quality.proofs.Between.{Moved}
use Rattle.quality.proofs.Between as Between
use Rattle.quality.proofs.Columns.{Nine, cells_put, nine_put}

module _ (c : Column) (k s f : ℕ) (v : ℤ) where
  -- the cell that is stored
  abbrev cell_of : Cell
  cell_of = record { state = s; flag = f; value = v }

  abbrev stored : Column
  stored = record { values = set c.values k v; states = set c.states k s; flags = set c.flags k f }

  pub filled_more : (g : ℕ → Cell) → Done g none 9 (cells c) k × Nine c → k < 9 → cell_of ≡ g k → Done g none 9 (cells stored) (k + 1) × Nine stored
  filled_more g d l e = (rw (cells_put c k s f v d.1 l) (Fill.more (cell_of) d.0 l e), nine_put c k s f v d.1 l)

  pub moved_more : (rule : Cell → Cell → Cell → Cell) (xs : List Cell) → Moved rule xs (cells c) k × Nine c → k < 8
      → cell_of ≡ rule (slot xs (k - 1)) (slot xs k) (slot xs (k + 1)) → Moved rule xs (cells stored) (k + 1) × Nine stored
  moved_more rule xs d l e = (
    rw (cells_put c k s f v d.1 (omega arith)) (Between.more rule xs (cells c) k (cell_of) d.0 l e),
    nine_put c k s f v d.1 (omega arith),
  )
