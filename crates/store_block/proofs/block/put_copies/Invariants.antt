-- `store_block::block::put_copies` meets its contract. The loop's invariant: what is read of the block has the copies put so far.
use mathlib.Core.List.{map}
use Prim.Native.Nat.{◌-◌}
use lib.ListN.{get_or}
use Rattle.store_layout.specs.Model.{unfiled, head_of}
use Rattle.store_layout.specs.Layout.{decode_block}
use Rattle.store_layout.specs.Updates.{with_copy}
use Rattle.store_block.specs.Coded.{copy_for}
use Rattle.store_numbers.specs.Areas.{with_heads}
use Rattle.store_block.proofs.Filling.{Filling}
use Rattle.store_block.proofs.block.put_copies.Given as goal

abbrev pub invariant-loop-k : goal.invariant-loop-k
invariant-loop-k l =
    Filling (λ hs. with_heads hs (decode_block l.initial.block)) (λ j. get_or (map (with_copy (copy_for l.copies)) (decode_block l.initial.block).heads) j unfiled) (head_of (decode_block l.initial.block)) unfiled l.block l.k

abbrev pub decreases-loop-k : goal.decreases-loop-k
decreases-loop-k l = 9 - l.k
