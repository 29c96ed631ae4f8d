-- `store_block::block::put_checked` meets its contract. The loop's invariant: what is read of the block has the column's cells put so far.
use Prim.Native.Nat.{◌-◌}
use Rattle.quality.specs.Cell.{none, slot}
use Rattle.quality.specs.Coded.{cells}
use Rattle.quality.specs.Elements.{column}
use Rattle.store_layout.specs.Layout.{decode_block}
use Rattle.store_numbers.specs.declared.area.Area.TheVariants.{Checked}
use Rattle.store_numbers.specs.Areas.{with_column}
use Rattle.store_block.proofs.Filling.{Filling}
use Rattle.store_block.proofs.block.put_checked.Given as goal

abbrev pub invariant-loop-k : goal.invariant-loop-k
invariant-loop-k l =
    Filling (λ xs. with_column Checked l.element xs (decode_block l.initial.block)) (slot (cells l.c)) (slot (column (decode_block l.initial.block).checked l.element)) none l.block l.k

abbrev pub decreases-loop-k : goal.decreases-loop-k
decreases-loop-k l = 9 - l.k
