-- What the calls do to a station, on the model: a report filed in a slot, the checked cells put, the copies of dd, the settled number.
-- Assumes nothing.
use Rattle.std.specs.Prelude.{List, map, ℕ, get_or, set}
use Rattle.laws.specs.Table.{table}
use Rattle.quality.specs.Cell.{Cell, none}
use Rattle.quality.specs.Elements.{column}
use Rattle.store_layout.specs.Model.{Block, Station, Store}
use Rattle.quality.specs.declared.head.SlotHead.{SlotHead}

-- "replaces the slot's head and raw cells": cells are the nine elements' raw cells of that slot
unfoldable pub with_slot : ℕ → SlotHead → List Cell → Block → Block
with_slot k h cells b =
    record {
      heads = set b.heads k h;
      raw = table 9 (λ e. set (column b.raw e) k (get_or cells e none));
      checked = b.checked;
    }

-- the checked sheet replaced
unfoldable pub with_checked : List (List Cell) → Block → Block
with_checked sheet b = record { heads = b.heads; raw = b.raw; checked = sheet }

-- S-6: each head's last byte, the copy of dd, as f gives it
abbrev pub with_copy : (SlotHead → ℕ) → SlotHead → SlotHead
with_copy f h = record { filed = h.filed; ir = h.ir; tr = h.tr; dd = h.dd; rank = h.rank; copy = f h }

unfoldable pub with_copies : (SlotHead → ℕ) → Block → Block
with_copies f b = record { heads = map (with_copy f) b.heads; raw = b.raw; checked = b.checked }

-- the station with another block and settled number
unfoldable pub with_block : Block → ℕ → Station → Station
with_block b settled t = record { number = t.number; row = t.row; settled = settled; block = b }

-- the store with another station at index i
unfoldable pub with_station : ℕ → Station → Store → Store
with_station i t m = record { year = m.year; month = m.month; day = m.day; stations = set m.stations i t }
