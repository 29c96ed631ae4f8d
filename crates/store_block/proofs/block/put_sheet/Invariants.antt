-- `store_block::block::put_sheet` meets its contract. The loop's invariant: what is read of the block has the columns put so far.
use mathlib.Core.List.{[]}
use Prim.Native.Nat.{◌-◌}
use Rattle.quality.specs.Coded.{sheet}
use Rattle.quality.specs.Elements.{column}
use Rattle.store_layout.specs.Layout.{decode_block}
use Rattle.store_layout.specs.Updates.{with_checked}
use Rattle.store_block.proofs.Filling.{Filling}
use Rattle.store_block.proofs.block.put_sheet.Given as goal

abbrev pub invariant-loop-e : goal.invariant-loop-e
invariant-loop-e l =
    Filling (λ s. with_checked s (decode_block l.initial.block)) (column (sheet l.fn.columns)) (column (decode_block l.initial.block).checked) [] l.block l.e

abbrev pub decreases-loop-e : goal.decreases-loop-e
decreases-loop-e l = 9 - l.e
