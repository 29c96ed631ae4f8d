-- S-6 at work: 40001 in a store with two neighbours, where document 01's report was filed. A settling in portions is begun; once a report comes
-- between its steps, once a NIL and other stations' calls.
--     ends_one, with_report        the theorem where a report came: the station is not settled
--     ends_two, without_report     and where none came: it is settled
-- Assumes nothing.
use mathlib.Core.Path.{◌≡◌, refl, sym, ◌∙◌, ap, subst}
use mathlib.Core.Bool.{Bool, true, false, cond}
use mathlib.Core.List.{List, [], ◌∷◌}
use Prim.Native.Nat.{ℕ}
use Rattle.laws.specs.Table.{table}
use Rattle.calendar.specs.Dates.{days_in, next_day}
use Rattle.calendar.specs.Slots.{slot_of}
use Rattle.store_layout.specs.Model.{Station}
use Rattle.store_layout.specs.Updates.{with_slot, with_checked, with_copies, with_block}
use Rattle.store_layout.specs.Framed.{Bytes}
use Rattle.store_layout.proofs.ValidBytes.{bytes_encode}
use Rattle.rules.specs.Calls.{Call, settle, begin, day, accepted, Request, Ask}
use Rattle.rules.specs.Rules
use Rattle.rules.specs.Rules.{Date, filed, begun_station}
use Rattle.rules.specs.Step.{step}
use Rattle.rules.specs.Runs.{log, left, naming_log}
use Rattle.rules.specs.Portions.{is_stepping, is_report, granted, count, some, undisturbed, station_in, Ends}
use Rattle.rules.proofs.Naming.{Picks, none, keep, pass, picked}
use Rattle.rules.proofs.Kept.{AllLawful, done_by}
use Rattle.rules.proofs.Holding.{HoldsStation, station_of, answer_own, holds_own}
use Rattle.rules.proofs.Own.{own_log, shows}
use Rattle.rules.proofs.Requests.{all_lawful}
use Rattle.rules.proofs.Reports.{report_bounds}
use Rattle.rules.proofs.Isolation.{new_station, date, holds_opened}
use Rattle.rules.proofs.InPortions.{count_naming, some_naming, begun_held, in_portions}
use Rattle.rules.proofs.Examples.{indicators, values, whole, nil, neighbour, next, of_whole, of_nil, of_neighbour, asks_whole, asks_nil, asks_neighbour, store_a, opens_A, has_A}

lawful : AllLawful
lawful = all_lawful report_bounds

-- ---- the store at begin
abbrev d : Date
d = date 2024 4 11

-- 40001 with the report in slot 0
abbrev before : Station
before = filed 0 0 indicators values (new_station 40001 0)

s : List ℕ
s = (step (whole 0) store_a).store

held : HoldsStation d 40001 before s
unfolding s Rules.rule Rules.file_at slot_of next_day days_in table
held =
    subst (λ (q : Ask). HoldsStation d 40001 (station_of (done_by d q (new_station 40001 0)) (new_station 40001 0)) (step (whole 0) store_a).store)
    (asks_whole 0)
    (holds_own (holds_opened 2024 4 11 40001 0 _ _ opens_A has_A) lawful (whole 0) (of_whole 0))

bytes : Bytes s
bytes = subst Bytes (sym held.bytes) (bytes_encode held.model held.valid)

begins : (step (begin 40001) s).answer ≡ accepted
unfolding Rules.rule
begins = answer_own held (begin 40001) refl

-- ---- the calls in between
-- of a run from there, the calls that name 40001 and their answers, from the station alone
module _ {cs own : List Call} (p : Picks 40001 cs own) (f : Request → Bool) where
  shown : naming_log 40001 (log step cs (step (begin 40001) s).store) ≡ own_log d (begun_station before) own
  shown = (shows lawful cs (begun_held d before 40001 s held lawful)).answers ∙ ap (own_log d (begun_station before)) (picked 40001 p)

  counted : count (granted f 40001) (log step cs (step (begin 40001) s).store) ≡ count (granted f 40001) (own_log d (begun_station before) own)
  counted = count_naming f 40001 _ ∙ ap (count (granted f 40001)) shown

  found : some (granted f 40001) (log step cs (step (begin 40001) s).store) ≡ some (granted f 40001) (own_log d (begun_station before) own)
  found = some_naming f 40001 _ ∙ ap (some (granted f 40001)) shown

-- a report of a higher rank between the steps
abbrev calls_one : List Call
calls_one = next ∷ whole 3 ∷ neighbour 0 ∷ next ∷ day 40001 ∷ next ∷ []

picks_one : Picks 40001 calls_one (next ∷ whole 3 ∷ next ∷ day 40001 ∷ next ∷ [])
picks_one = keep refl (keep (of_whole 3) (pass (of_neighbour 0) (keep refl (keep refl (keep refl none)))))

-- a NIL, and calls of others
abbrev calls_two : List Call
calls_two = next ∷ nil 0 ∷ settle 50000 ∷ begin 30000 ∷ next ∷ next ∷ []

picks_two : Picks 40001 calls_two (next ∷ nil 0 ∷ next ∷ next ∷ [])
picks_two = keep refl (keep (of_nil 0) (pass refl (pass refl (keep refl (keep refl none)))))

computed_one : (count (granted is_stepping 40001) (own_log d (begun_station before) (next ∷ whole 3 ∷ next ∷ day 40001 ∷ next ∷ [])) ≡ 3)
    × (some (granted is_report 40001) (own_log d (begun_station before) (next ∷ whole 3 ∷ next ∷ day 40001 ∷ next ∷ [])) ≡ true)
unfolding count some own_log Rules.rule Rules.file_at Rules.filed Rules.begun_station Rules.portion Rules.copy_step Rules.step_done Rules.day_of with_block with_slot with_checked with_copies
    slot_of next_day days_in table
computed_one = (rw (asks_whole 3) refl, rw (asks_whole 3) refl)

computed_two : (count (granted is_stepping 40001) (own_log d (begun_station before) (next ∷ nil 0 ∷ next ∷ next ∷ [])) ≡ 3)
    × (some (granted is_report 40001) (own_log d (begun_station before) (next ∷ nil 0 ∷ next ∷ next ∷ [])) ≡ false)
unfolding count some own_log Rules.rule Rules.file_at Rules.filed Rules.begun_station Rules.portion Rules.copy_step Rules.step_done with_block with_slot with_checked with_copies
    slot_of next_day days_in table
computed_two = (rw (asks_nil 0) refl, rw (asks_nil 0) refl)

-- no other begin or settle of 40001 is among them
alone : (undisturbed 40001 calls_one ≡ true) × (undisturbed 40001 calls_two ≡ true)
unfolding undisturbed
alone = (rw (asks_whole 3, asks_neighbour 0) refl, rw (asks_nil 0) refl)

-- ---- the theorem
ends_one : Ends step 40001 s calls_one
ends_one = (in_portions lawful).ends 40001 s calls_one bytes begins alone.0 (counted picks_one is_stepping ∙ computed_one.0)

ends_two : Ends step 40001 s calls_two
ends_two = (in_portions lawful).ends 40001 s calls_two bytes begins alone.1 (counted picks_two is_stepping ∙ computed_two.0)

-- and what they come to
with_report : (station_in 40001 (step next (left step (begin 40001 ∷ calls_one) s)).store).settled ≡ 0
with_report = ends_one.mark ∙ ap (λ (b : Bool). cond b 0 1) (found picks_one is_report ∙ computed_one.1)

without_report : (station_in 40001 (step next (left step (begin 40001 ∷ calls_two) s)).store).settled ≡ 1
without_report = ends_two.mark ∙ ap (λ (b : Bool). cond b 0 1) (found picks_two is_report ∙ computed_two.1)
