-- `store_block::block::put_slot` meets its contract. The loop's invariant: what is read of the block has the elements' cells put so far.
use mathlib.Core.List.{[]}
use Prim.Native.Nat.{◌-◌}
use lib.ListN.{set}
use Rattle.quality.specs.Cell.{slot}
use Rattle.quality.specs.Elements.{column}
use Rattle.store_layout.specs.Layout.{decode_block}
use Rattle.store_numbers.specs.declared.area.Area.TheVariants.{Raw}
use Rattle.store_numbers.specs.Areas.{with_sheet}
use Rattle.store_block.proofs.Filling.{Filling}
use Rattle.store_block.proofs.block.put_slot.Given as goal

abbrev pub invariant-loop-e : goal.invariant-loop-e
invariant-loop-e l =
    Filling (λ s. with_sheet Raw s (decode_block l.initial.block)) (λ x. set (column (decode_block l.initial.block).raw x) l.k (slot l.fn.raw x)) (column (decode_block l.initial.block).raw) [] l.block l.e

abbrev pub decreases-loop-e : goal.decreases-loop-e
decreases-loop-e l = 9 - l.e
