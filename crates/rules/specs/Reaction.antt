-- What a call does to a store, on the model: no byte plays a part.
-- "File tests 9, then 1 to 8 in order, ..; settle 9, 6; cell 9, 6, 12, 11; day 9, 6, 11", S-3: 13 "right after 9" and "just before 8"; S-6: 14
-- "tested after 9 and 6": all but 9.
-- Assumes nothing.
use Rattle.std.specs.Prelude.{ℕ}
use Rattle.store_layout.specs.Model.{Store, station_at}
use Rattle.store_layout.specs.Index.{Index, nowhere, index, index_in, numbers}
use Rattle.store_layout.specs.Updates.{with_station}
use Rattle.rules.specs.Calls.{Answer, refused, Request, Ask, unnamed, named, denied}
use Rattle.rules.specs.Rules.{Date, Effect, keeps, makes, rule}

-- the store stays as it is, and this is the answer; or it becomes this one, and the call is accepted
pub data Reaction : Type 0 where
  stays : Answer → Reaction
  becomes : Store → Reaction

abbrev pub date_of : Store → Date
date_of m = record { year = m.year; month = m.month; day = m.day }

-- what a station's effect does to the store in which it stands at index i
abbrev pub placed : Effect → ℕ → Store → Reaction
placed (keeps a) i m = stays a
placed (makes t) i m = becomes (with_station i t m)

-- what a request on the station at index i does
abbrev pub on_station : Request → Store → ℕ → Reaction
on_station request m i = placed (rule (date_of m) request (station_at m.stations i)) i m

-- "station not in the store" is 6
abbrev pub at : Index → (ℕ → Reaction) → Reaction
at nowhere f = stays (refused 6)
at (index i) f = f i

-- a text that names nobody is refused with its number; so is what is denied, before the station is looked for
abbrev pub reaction : Ask → Store → Reaction
reaction (unnamed n) m = stays (refused n)
reaction (named x request) m = at (index_in (numbers m) x) (on_station request m)
reaction (denied x n) m = stays (refused n)
