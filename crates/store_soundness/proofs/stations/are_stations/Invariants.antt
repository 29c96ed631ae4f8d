-- `store_soundness::stations::are_stations` meets its contract. The loop's invariant: each station passed is sound and in order, and `last` is the last number.
use mathlib.Core.Path.{◌≡◌}
use Rattle.store_layout.specs.Layout.{long, entry_at}
use Rattle.store_numbers.proofs.Ascending.{number_before}
use Rattle.store_numbers.proofs.Passed.{Passed}
use Rattle.store_soundness.proofs.InTurn.{station_in_order}
use Rattle.store_soundness.proofs.stations.are_stations.Given as goal

abbrev pub invariant-loop-i : goal.invariant-loop-i
invariant-loop-i l = Passed (station_in_order l.store l.n) l.n l.i × (l.last ≡ number_before (λ k. long l.store (entry_at k)) l.i)
