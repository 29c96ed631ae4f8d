-- Where the report of a heading lies in a store: the index of its station and its slot.
-- Assumes nothing.
use Rattle.std.specs.Prelude.{ℕ, Option, None, Some, Result, Ok, Err}
use Rattle.refusals.specs.declared.Refusal.{Refusal}
use Rattle.refusals.specs.declared.Refusal.TheVariants.{UnknownStation, NoSlot}
use Rattle.calendar.specs.Slots.{slot_of}
use Rattle.store_layout.specs.Model.{Store}
use Rattle.store_layout.specs.Index.{index_in, numbers}
use Rattle.store_soundness.specs.Located.{placed}
use Rattle.synop.specs.declared.contents.Identification.{Identification}
use Rattle.engine_filing.specs.declared.Place.{Place}

-- "6 station not in the store", then "7 no such slot"
abbrev pub place_at : Option ℕ → Option ℕ → Result Place Refusal
place_at None slot = Err UnknownStation
place_at (Some i) None = Err NoSlot
place_at (Some i) (Some k) = Ok (record { index = i; slot = k })

abbrev pub place : Store → Identification → Result Place Refusal
place m h = place_at (placed (index_in (numbers m) h.station)) (slot_of m.year m.month m.day h.day h.hour)
