-- `store_opening::fresh::put_heads` meets its contract. The loop's invariant: the heads laid so far.
use Prim.Native.Nat.{◌-◌}
use Rattle.store_layout.specs.Model.{unfiled}
use Rattle.store_layout.specs.Layout.{encode_head}
use Rattle.store_numbers.proofs.Laying.{Laying}
use Rattle.store_opening.proofs.fresh.put_heads.Given as goal

abbrev pub invariant-loop-k : goal.invariant-loop-k
invariant-loop-k l = Laying l.initial.store l.at (λ j. encode_head unfiled) 9 l.store l.k

abbrev pub decreases-loop-k : goal.decreases-loop-k
decreases-loop-k l = 9 - l.k
