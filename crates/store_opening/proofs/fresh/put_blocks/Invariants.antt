-- `store_opening::fresh::put_blocks` meets its contract. The loop's invariant: the blocks laid so far.
use Prim.Native.Nat.{◌-◌}
use Rattle.store_layout.specs.Model.{empty_block}
use Rattle.store_layout.specs.Layout.{block_at, encode_block}
use Rattle.store_numbers.proofs.Laying.{Laying}
use Rattle.store_opening.proofs.fresh.put_blocks.Given as goal

abbrev pub invariant-loop-i : goal.invariant-loop-i
invariant-loop-i l = Laying l.initial.store (block_at l.n 0) (λ j. encode_block empty_block) l.n l.store l.i

abbrev pub decreases-loop-i : goal.decreases-loop-i
decreases-loop-i l = l.n - l.i
