-- `vapour::recurrence::sum` meets its contract. The loop's invariant: the last term is term k, and the sum that of terms 0 to k.
use mathlib.Core.Path.{◌≡◌}
use Prim.Native.Nat.{◌≤◌}
use Rattle.vapour.specs.Vapour.{term, sum_to}
use Rattle.vapour.proofs.recurrence.sum.Given as goal

abbrev pub invariant-loop-k : goal.invariant-loop-k
invariant-loop-k l = (l.k ≤ 30) × (l.term ≡ term l.q l.k) × (l.z ≡ sum_to (term l.q) l.k)
