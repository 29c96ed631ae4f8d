-- What the code's array of directions stands for, and which copies of dd it writes.
-- Assumes nothing.
use Rattle.std.specs.Prelude.{List, map, ℕ}
use Rattle.store_layout.specs.Model.{Block}
use Rattle.quality.specs.declared.head.SlotHead.{SlotHead}
use Rattle.store_block.specs.declared.block.Dd.{Dd}
use Rattle.store_block.specs.declared.block.Dd.TheVariants.{Own, Copy}
use Rattle.store_block.specs.declared.block.Copies.{Copies}
use Rattle.store_block.specs.declared.block.Copies.TheVariants.{Taken, Cleared}

-- a head's own dd, or S-6's copy of it
abbrev pub dd_of : Dd → SlotHead → ℕ
dd_of Own h = h.dd
dd_of Copy h = h.copy

-- that of each slot
abbrev pub directions_of : Dd → Block → List ℕ
directions_of of b = map (dd_of of) b.heads

-- S-6: each slot's dd is copied "to the last head byte", which is "0 again after fill"
abbrev pub copy_for : Copies → SlotHead → ℕ
copy_for Taken h = h.dd
copy_for Cleared h = 0
