-- `store_opening::fresh::put_heads` meets its contract. The loop's invariant: the heads laid so far.
use mathlib.Core.Path.{refl}
use native.Mathlib.Omega.{arith}
use borrow.Author.Rules.{rules}
use Rattle.store_layout.specs.Layout.{head_length, encode_head}
use Rattle.store_numbers.proofs.Laying.{none, more, whole}
use Rattle.store_opening.proofs.fresh.put_heads.Goals as goal

pub loop-k-init : goal.loop-k-init
unfolding encode_head
loop-k-init c = none _ _ _ _

pub loop-k-preserved : goal.loop-k-preserved
unfolding encode_head
loop-k-preserved c = more c.loop-k.invariant head_length (λ j. refl) (search rules) _ refl
    (rw c.unfiled.ensures at c.put_head.ensures)

pub returns : goal.returns
returns c = whole c.loop-k.invariant (omega arith)
