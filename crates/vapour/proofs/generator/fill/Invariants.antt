-- `vapour::generator::fill` meets its contract. The loop's invariant: the entries filled so far.
use lib.IntN.{sub_ℕ}
use Rattle.laws.proofs.Fill.{Done}
use Rattle.vapour.specs.Vapour.{places, entry}
use Rattle.vapour.proofs.generator.fill.Given as goal

abbrev pub invariant-loop-index : goal.invariant-loop-index
invariant-loop-index l = Done (λ i. entry (sub_ℕ i 500)) 0 places l.entries l.index
