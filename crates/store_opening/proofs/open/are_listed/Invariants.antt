-- `store_opening::open::are_listed` meets its contract. The loop's invariant: each station passed is in order and passes its tests, and `last` is the last number.
use mathlib.Core.Path.{◌≡◌}
use lib.ListN.{length, get_or}
use Rattle.store_numbers.proofs.Ascending.{number_before}
use Rattle.store_numbers.proofs.Passed.{Passed}
use Rattle.store_opening.proofs.Listed.{station_in_order}
use Rattle.store_opening.proofs.open.are_listed.Given as goal

abbrev pub invariant-loop-number : goal.invariant-loop-number
invariant-loop-number l =
    Passed (station_in_order l.stations l.rows) (length l.stations) (length l.yielded)
    × (l.last ≡ number_before (λ k. get_or l.stations k 0) (length l.yielded))
