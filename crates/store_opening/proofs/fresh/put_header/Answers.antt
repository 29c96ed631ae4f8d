-- `store_opening::fresh::put_header` meets its contract. The loop's invariant: the words laid so far.
use mathlib.Core.Path.{refl}
use native.Mathlib.Omega.{arith}
use borrow.Author.Rules.{rules}
use Rattle.store_numbers.proofs.Laying.{none, more, whole}
use Rattle.store_opening.proofs.fresh.put_header.Goals as goal

pub loop-k-init : goal.loop-k-init
loop-k-init c = none _ _ _ _

pub loop-k-preserved : goal.loop-k-preserved
loop-k-preserved c = more c.loop-k.invariant 2 (λ j. refl) (search rules) _ (omega arith) c.put_word.ensures

pub returns : goal.returns
returns c = whole c.loop-k.invariant (search rules)
