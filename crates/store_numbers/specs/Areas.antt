-- A block's two sheets, raw and checked, said once for both.
-- Assumes nothing.
use Rattle.std.specs.Prelude.{List, ℕ, ◌+◌, ◌*◌, set}
use Rattle.quality.specs.Cell.{Cell}
use Rattle.quality.specs.Elements.{column}
use Rattle.store_layout.specs.Model.{Block}
use Rattle.quality.specs.declared.head.SlotHead.{SlotHead}
use Rattle.store_layout.specs.Layout.{raw_from, checked_from, cell_length, cell_index}
use Rattle.store_numbers.specs.declared.area.Area.{Area}
use Rattle.store_numbers.specs.declared.area.Area.TheVariants.{Raw, Checked}

-- "81 raw and 81 checked cells"
abbrev pub sheet_in : Area → Block → List (List Cell)
sheet_in Raw b = b.raw
sheet_in Checked b = b.checked

-- where they begin in a block, and where the cell of element e at slot k lies
abbrev pub area_from : Area → ℕ
area_from Raw = raw_from
area_from Checked = checked_from

abbrev pub cell_at : Area → ℕ → ℕ → ℕ
cell_at a e k = area_from a + cell_length * cell_index e k

-- the block with another sheet there
abbrev pub with_sheet : Area → List (List Cell) → Block → Block
with_sheet Raw s b = record { heads = b.heads; raw = s; checked = b.checked }
with_sheet Checked s b = record { heads = b.heads; raw = b.raw; checked = s }

-- with another column of element e there
abbrev pub with_column : Area → ℕ → List Cell → Block → Block
with_column a e xs b = with_sheet a (set (sheet_in a b) e xs) b

-- with another cell of element e at slot k there
abbrev pub with_cell : Area → ℕ → ℕ → Cell → Block → Block
with_cell a e k c b = with_column a e (set (column (sheet_in a b) e) k c) b

-- with other heads, and with another head of slot k
abbrev pub with_heads : List SlotHead → Block → Block
with_heads hs b = record { heads = hs; raw = b.raw; checked = b.checked }

abbrev pub with_head : ℕ → SlotHead → Block → Block
with_head k h b = with_heads (set b.heads k h) b
