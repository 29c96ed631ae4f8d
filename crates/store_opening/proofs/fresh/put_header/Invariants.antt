-- `store_opening::fresh::put_header` meets its contract. The loop's invariant: the words laid so far.
use Prim.Native.Nat.{◌-◌}
use lib.ListN.{get_or}
use Rattle.store_layout.specs.Layout.{word_bytes}
use Rattle.store_numbers.proofs.Laying.{Laying}
use Rattle.store_opening.proofs.fresh.put_header.Given as goal

abbrev pub invariant-loop-k : goal.invariant-loop-k
invariant-loop-k l = Laying l.initial.store 0 (λ j. word_bytes (get_or l.fn.words j 0)) 8 l.store l.k

abbrev pub decreases-loop-k : goal.decreases-loop-k
decreases-loop-k l = 8 - l.k
