-- `store_opening::fresh::put_entries` meets its contract. The loop's invariant: the entries laid so far.
use mathlib.Core.List.{◌++◌}
use lib.ListN.{length, get_or}
use Rattle.store_layout.specs.Layout.{word_bytes, long_bytes, header_length}
use Rattle.store_numbers.proofs.Laying.{Laying}
use Rattle.store_opening.proofs.fresh.put_entries.Given as goal

abbrev pub invariant-loop-i : goal.invariant-loop-i
invariant-loop-i l =
    Laying l.initial.store header_length (λ j. long_bytes (get_or l.stations j 0) ++ (word_bytes (get_or l.rows j 0) ++ word_bytes 0)) (length l.stations) l.store (length l.yielded)
