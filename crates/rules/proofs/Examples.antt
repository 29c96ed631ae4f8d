-- Demand 3 at work: one station, 40001, in two stores with different neighbours, and two lists of calls that agree in the calls that name
-- it. The answers are those that document 01's example gives, then those of S-3: the report at ranks above 24, above the slot's, below it
-- and equal to it, and a NIL below it and above 24; then those of S-6: a step with no settling under way, and a settling in portions, once
-- with a report in between and once with none.
--     answers_A, answers_B      the station's answers in either run
-- Assumes nothing.
use mathlib.Core.Path.{◌≡◌, refl, sym, ◌∙◌, ap}
use mathlib.Core.Bool.{true, false}
use mathlib.Core.List.{List, [], ◌∷◌, map}
use Rattle.std.specs.Prelude.{None, Some}
use Prim.Native.Nat.{ℕ}
use native.Mathlib.Omega.{arith}
use lib.IntN.{pos}
use Rattle.laws.specs.Table.{table}
use Rattle.calendar.specs.Dates.{is_date, days_in, next_day}
use Rattle.calendar.specs.Slots.{slot_of}
use Rattle.synop_text.specs.Characters
use Rattle.synop_text.specs.Groups
use Rattle.synop_text.specs.Kinds
use Rattle.synop_checks.specs.Bytes
use Rattle.synop_text.specs.Places
use Rattle.synop_checks.specs.Ranges
use Rattle.synop_checks.specs.Refusal
use Rattle.synop_checks.specs.Shapes
use Rattle.synop_values.specs.Tables
use Rattle.synop_values.specs.Digits
use Rattle.synop_values.specs.Elements
use Rattle.synop_values.specs.Indicators as figures
use Rattle.synop_values.specs.OneGroup
use Rattle.synop_values.specs.Value.{Value, missing, read}
use Rattle.synop_parts.specs.Parts
use Rattle.synop.specs.Contents
use Rattle.synop.specs.declared.contents.Indicators.{Indicators}
use Rattle.synop.specs.Report as reports
use Rattle.synop.specs.Report.{Report, report}
use Rattle.synop.proofs.Examples.{bytes_from, bytes}
use Rattle.quality.specs.Steps
use Rattle.quality.specs.Settled
use Rattle.vapour.specs.Vapour
use Rattle.daily.specs.Counts
use Rattle.daily.specs.Extremes
use Rattle.daily.specs.Line
use Rattle.daily.specs.Line.{DayLine}
use Rattle.daily.specs.Means.{absent, sum, average, vapour_column}
use Rattle.daily.specs.Rain
use Rattle.store_layout.specs.Model.{Station}
use Rattle.store_layout.specs.Opening.{can_open, openable_in}
use Rattle.store_layout.specs.Updates.{with_slot, with_checked, with_copies, with_block}
use Rattle.rules.specs.Calls as calls
use Rattle.rules.specs.Calls.{Call, file, settle, begin, cell, day, Answer, refused, accepted, a_cell, a_day, Ask, unnamed, named, denied, ranked, take_nil, take, settling, beginning, stepping, give_cell, give_day, ask, ask_file}
use Rattle.rules.specs.Rules
use Rattle.rules.specs.Rules.{Date}
use Rattle.rules.specs.Step.{step}
use Rattle.rules.specs.Runs.{Logged, log, names, naming, naming_log}
use Rattle.rules.specs.Naming.{is_of}
use Rattle.rules.specs.Isolation.{Opens, Has, opened, Alike}
use Rattle.rules.proofs.Naming.{named_by_text, Picks, none, keep, pass, picked}
use Rattle.rules.proofs.Kept.{done_by}
use Rattle.rules.proofs.Holding.{answer_of, station_of}
use Rattle.rules.proofs.Own.{own_log, shows}
use Rattle.rules.proofs.Requests.{all_lawful}
use Rattle.rules.proofs.Reports.{report_bounds}
use Rattle.rules.proofs.Demand3.{demand3}
use Rattle.rules.proofs.Isolation.{new_station, date, holds_opened}

-- ---- the texts
-- document 01's report; a NIL of its station; one of another station; a text that passes no check
whole_text : List ℕ
whole_text = bytes "AAXX 11061 40001 12360 62704 10103 20071 40132 60042="

nil_text : List ℕ
nil_text = bytes "AAXX 11061 40001 NIL="

neighbour_text : List ℕ
neighbour_text = bytes "AAXX 11061 30000 NIL="

small_text : List ℕ
small_text = bytes "aaxx="

-- what they hold
abbrev pub indicators : Indicators
indicators = record { rain_indicator = 1; rain_sent = true; rain_duration = 2; wind_direction = 27 }

abbrev pub values : List Value
values =
    read (pos 103) ∷ read (pos 71) ∷ read (pos 10132) ∷ read (pos 40) ∷ read (pos 6) ∷ read (pos 100) ∷ read (pos 40) ∷ missing ∷ missing ∷ []

reads : (report whole_text ≡ Report.whole (record { station = 40001; day = 11; hour = 6 }) indicators values)
    × (report nil_text ≡ Report.nil (record { station = 40001; day = 11; hour = 6 }))
    × (report neighbour_text ≡ Report.nil (record { station = 30000; day = 11; hour = 6 }))
    × (report small_text ≡ Report.refused 2)
unfolding whole_text nil_text neighbour_text small_text bytes bytes_from table
    Characters.are_figures Groups.cut Kinds.of_three Kinds.of_four Kinds.of_five Kinds.kind_of
    Bytes.ended Bytes.check1 Bytes.is_known Bytes.check2 Bytes.of_bytes
    Places.aaxx_after Places.opened Places.ordered Places.first_of_one Places.complete Places.final
    Ranges.is_day Ranges.is_hour Ranges.is_unit Ranges.is_time Ranges.is_station Ranges.ranged_from
    Refusal.of_groups Refusal.refusal Shapes.are_digits Shapes.shaped_from
    Digits.two Digits.three Digits.four
    Tables.temperature_of Elements.temperature Tables.moisture_of Elements.moisture Tables.pressure_of Elements.pressure Tables.wind_of Elements.wind_ff Elements.wind_fff Tables.cloud_of Elements.cloud Tables.visibility_of Elements.visibility Tables.rain_of Elements.rain
    Tables.rain_indicator_of figures.rain_indicator Tables.wind_direction_of figures.wind_direction figures.rain_duration_of figures.rain_duration
    Kinds.characters_of OneGroup.temperature OneGroup.moisture OneGroup.pressure OneGroup.wind_ff OneGroup.wind_fff OneGroup.cloud OneGroup.visibility OneGroup.rain OneGroup.rain_indicator OneGroup.rain_duration OneGroup.wind_direction
    Contents.two_of Contents.station_of Contents.identification_of Contents.indicators_of Contents.wind_of Contents.values_of
    Parts.of_one Parts.of_three Parts.of_later Parts.first Parts.parts
    reports.content reports.read reports.report
reads = (refl, refl, refl, refl)

-- what document 01's report asks of whom, at a rank
abbrev pub sent : ℕ → Ask
sent rank = named 40001 (take 11 6 rank indicators values)

-- what is asked of 40001, one after the other; the last of it for S-6
abbrev step_asked : Ask
step_asked = named 40001 stepping

abbrev asked_later : List Ask
asked_later =
    step_asked ∷ named 40001 beginning ∷ step_asked ∷ sent 4 ∷ step_asked ∷ named 40001 give_day ∷ step_asked ∷ step_asked ∷ named 40001 give_day
    ∷ named 40001 beginning
    ∷ step_asked
    ∷ step_asked
    ∷ step_asked
    ∷ step_asked
    ∷ named 40001 give_day
    ∷ []

asked : List Ask
asked =
    sent 0 ∷ named 40001 give_day ∷ named 40001 settling ∷ named 40001 (give_cell 0 0) ∷ sent 0 ∷ named 40001 (give_cell 0 9)
    ∷ named 40001 give_day
    ∷ denied 40001 13
    ∷ named 40001 give_day
    ∷ sent 3
    ∷ named 40001 give_day
    ∷ sent 1
    ∷ named 40001 (take_nil 11 6 1)
    ∷ denied 40001 13
    ∷ sent 3
    ∷ asked_later

-- ---- the calls
-- the texts filed at a rank
pub whole : ℕ → Call
whole rank = file whole_text rank

pub nil : ℕ → Call
nil rank = file nil_text rank

pub neighbour : ℕ → Call
neighbour rank = file neighbour_text rank

small : ℕ → Call
small rank = file small_text rank

-- a step of 40001
abbrev pub next : Call
next = calls.step 40001

-- those that name 40001, the last of them for S-6
abbrev own_later : List Call
own_later =
    next ∷ begin 40001 ∷ next ∷ whole 4 ∷ next ∷ day 40001 ∷ next ∷ next ∷ day 40001 ∷ begin 40001 ∷ next ∷ next ∷ next ∷ next ∷ day 40001 ∷ []

pub own : List Call
own =
    whole 0 ∷ day 40001 ∷ settle 40001 ∷ cell 40001 0 0 ∷ whole 0 ∷ cell 40001 0 9 ∷ day 40001
    ∷ whole 25
    ∷ day 40001
    ∷ whole 3
    ∷ day 40001
    ∷ whole 1
    ∷ nil 1
    ∷ nil 25
    ∷ whole 3
    ∷ own_later

-- in between other stations', some that are not there, and a text that does not pass
abbrev later_a : List Call
later_a =
    next ∷ begin 30000 ∷ begin 40001 ∷ next ∷ calls.step 30000 ∷ whole 4 ∷ settle 30000 ∷ next ∷ day 40001 ∷ next ∷ next ∷ day 40001 ∷ begin 40001
    ∷ next
    ∷ next
    ∷ neighbour 0
    ∷ next
    ∷ next
    ∷ day 40001
    ∷ []

pub calls_a : List Call
calls_a =
    neighbour 0 ∷ whole 0 ∷ settle 50000 ∷ day 40001 ∷ small 0 ∷ settle 40001 ∷ settle 12345 ∷ cell 40001 0 0 ∷ whole 0 ∷ day 30000
    ∷ cell 40001 0 9
    ∷ day 40001
    ∷ neighbour 25
    ∷ whole 25
    ∷ day 40001
    ∷ small 30
    ∷ whole 3
    ∷ day 40001
    ∷ whole 1
    ∷ neighbour 24
    ∷ nil 1
    ∷ nil 25
    ∷ whole 3
    ∷ later_a

abbrev later_b : List Call
later_b =
    next ∷ begin 40001 ∷ next ∷ whole 4 ∷ next ∷ day 40001 ∷ next ∷ begin 99999 ∷ next ∷ day 40001 ∷ begin 40001 ∷ next ∷ next ∷ next
    ∷ calls.step 12345
    ∷ next
    ∷ day 40001
    ∷ []

pub calls_b : List Call
calls_b =
    settle 99999 ∷ whole 0 ∷ day 40001 ∷ settle 40001 ∷ cell 99999 0 0 ∷ cell 40001 0 0 ∷ whole 0 ∷ cell 40001 0 9 ∷ day 40001
    ∷ whole 25
    ∷ day 40001
    ∷ whole 3
    ∷ neighbour 24
    ∷ day 40001
    ∷ whole 1
    ∷ nil 1
    ∷ small 25
    ∷ nil 25
    ∷ whole 3
    ∷ later_b

-- whom the texts name, at any rank
pub of_whole : (rank : ℕ) → names 40001 (whole rank) ≡ true
unfolding whole
of_whole rank = named_by_text.at_any_rank whole_text rank 40001 ∙ ap (λ (r : Report). is_of r 40001) reads.0

pub of_nil : (rank : ℕ) → names 40001 (nil rank) ≡ true
unfolding nil
of_nil rank = named_by_text.at_any_rank nil_text rank 40001 ∙ ap (λ (r : Report). is_of r 40001) reads.1

pub of_neighbour : (rank : ℕ) → names 40001 (neighbour rank) ≡ false
unfolding neighbour
of_neighbour rank = named_by_text.at_any_rank neighbour_text rank 40001 ∙ ap (λ (r : Report). is_of r 40001) reads.2

of_small : (rank : ℕ) → names 40001 (small rank) ≡ false
unfolding small
of_small rank = named_by_text.at_any_rank small_text rank 40001 ∙ ap (λ (r : Report). is_of r 40001) reads.3

picks_A : Picks 40001 later_a own_later
picks_A =
    keep refl
    (pass refl
    (keep refl
    (keep refl
    (pass refl
    (keep (of_whole 4)
    (pass refl
    (keep refl
    (keep refl
    (keep refl (keep refl (keep refl (keep refl (keep refl (keep refl (pass (of_neighbour 0) (keep refl (keep refl (keep refl none))))))))))))))))))

picks_B : Picks 40001 later_b own_later
picks_B =
    keep refl
    (keep refl
    (keep refl
    (keep (of_whole 4)
    (keep refl
    (keep refl
    (keep refl
    (pass refl
    (keep refl (keep refl (keep refl (keep refl (keep refl (keep refl (pass refl (keep refl (keep refl none))))))))))))))))

naming_A : naming 40001 calls_a ≡ own
unfolding calls_a own
naming_A =
    picked 40001
    (pass (of_neighbour 0)
    (keep (of_whole 0)
    (pass refl
    (keep refl
    (pass (of_small 0)
    (keep refl
    (pass refl
    (keep refl
    (keep (of_whole 0)
    (pass refl
    (keep refl
    (keep refl
    (pass (of_neighbour 25)
    (keep (of_whole 25)
    (keep refl
    (pass (of_small 30)
    (keep (of_whole 3)
    (keep refl (keep (of_whole 1) (pass (of_neighbour 24) (keep (of_nil 1) (keep (of_nil 25) (keep (of_whole 3) picks_A)))))))))))))))))))))))

naming_B : naming 40001 calls_b ≡ own
unfolding calls_b own
naming_B =
    picked 40001
    (pass refl
    (keep (of_whole 0)
    (keep refl
    (keep refl
    (pass refl
    (keep refl
    (keep (of_whole 0)
    (keep refl
    (keep refl
    (keep (of_whole 25)
    (keep refl
    (keep (of_whole 3)
    (pass (of_neighbour 24)
    (keep refl (keep (of_whole 1) (keep (of_nil 1) (pass (of_small 25) (keep (of_nil 25) (keep (of_whole 3) picks_B)))))))))))))))))))

-- S-3: a rank above 24 is tested before the text, so that no check of the text shows: one that fails check 1 is refused 13, as one that
-- fails check 2, which names nobody either
high_1 : (ask (file [] 24) ≡ unnamed 1) × (ask (file [] 25) ≡ unnamed 13)
unfolding Bytes.ended Bytes.check1 Bytes.of_bytes Refusal.refusal reports.content reports.read reports.report
high_1 = (refl, refl)

high_2 : (ask (small 24) ≡ unnamed 2) × (ask (small 25) ≡ unnamed 13)
unfolding small
high_2 = (ap (λ (r : Report). ranked 24 (ask_file 24 r)) reads.3, ap (λ (r : Report). ranked 25 (ask_file 25 r)) reads.3)

-- and what they ask
pub asks_whole : (rank : ℕ) → ask (whole rank) ≡ ranked rank (sent rank)
unfolding whole
asks_whole rank = ap (λ (r : Report). ranked rank (ask_file rank r)) reads.0

pub asks_nil : (rank : ℕ) → ask (nil rank) ≡ ranked rank (named 40001 (take_nil 11 6 rank))
unfolding nil
asks_nil rank = ap (λ (r : Report). ranked rank (ask_file rank r)) reads.1

pub asks_neighbour : (rank : ℕ) → ask (neighbour rank) ≡ ranked rank (named 30000 (take_nil 11 6 rank))
unfolding neighbour
asks_neighbour rank = ap (λ (r : Report). ranked rank (ask_file rank r)) reads.2

asked_own : map ask own ≡ asked
unfolding own asked
asked_own = rw (asks_whole 0, asks_whole 25, asks_whole 3, asks_whole 1, asks_nil 1, asks_nil 25, asks_whole 4)

-- ---- the answers
-- document 01 prints this line: "40001 - 0 0 7 0 0 74"
abbrev line : DayLine
line =
    record {
      temperature = absent;
      dew_point = absent;
      pressure = absent;
      wind = absent;
      cloud = absent;
      vapour = absent;
      rain = None;
      warmest = Some 0;
      coldest = Some 0;
      read = 7;
      corrected = 0;
      filled = 0;
      missing = 74;
    }

pub answers : List Logged → List Answer
answers = map (λ (l : Logged). l.answer)

-- a step with no settling under way; a settling with a report in between, after which the station is not settled; and one without
abbrev replies_later : List Answer
replies_later =
    refused 14 ∷ accepted ∷ accepted ∷ accepted ∷ accepted ∷ refused 11 ∷ accepted ∷ accepted ∷ refused 11 ∷ accepted ∷ accepted ∷ accepted
    ∷ accepted
    ∷ accepted
    ∷ a_day line
    ∷ []

pub replies : List Answer
replies =
    accepted ∷ refused 11 ∷ accepted ∷ a_cell (record { state = 1; flag = 0; value = pos 103 }) ∷ refused 8 ∷ refused 12 ∷ a_day line
    ∷ refused 13
    ∷ a_day line
    ∷ accepted
    ∷ refused 11
    ∷ refused 13
    ∷ accepted
    ∷ refused 13
    ∷ refused 8
    ∷ replies_later

-- the answers to what is asked, one after the other
replies_to : Date → Station → List Ask → List Answer
replies_to d t [] = []
replies_to d t (q ∷ qs) = answer_of (done_by d q t) ∷ replies_to d (station_of (done_by d q t) t) qs

replies_asked : (d : Date) (t : Station) (cs : List Call) → answers (own_log d t cs) ≡ replies_to d t (map ask cs)
unfolding answers own_log replies_to
replies_asked d t [] = refl
replies_asked d t (c ∷ cs) =
    ap (λ (ls : List Answer). answer_of (done_by d (ask c) t) ∷ ls) (replies_asked d (station_of (done_by d (ask c) t) t) cs)

replies_computed : replies_to (date 2024 4 11) (new_station 40001 0) asked ≡ replies
unfolding asked replies replies_to table is_date days_in next_day slot_of with_slot with_checked with_copies with_block
    Rules.filed Rules.file_at Rules.copy_step Rules.step_done Rules.settled_station Rules.begun_station Rules.portion Rules.cell_of Rules.day_of Rules.rule
    Steps.range_cell Steps.dew_cell Steps.wind_cell Steps.maximum_below_minimum Steps.spike_cell Steps.time_cell Steps.fill_cell Steps.between Steps.range_column Steps.dew_column Steps.wind_column Steps.suspect_at
    Settled.range Settled.internal Settled.time_of Settled.time Settled.fill_of Settled.fill
    Vapour.term Vapour.sum_to Vapour.Z Vapour.entry Vapour.pressure
    Counts.in_column Counts.in_sheet Extremes.on_ties Extremes.warmest Extremes.coldest Line.day_line sum average vapour_column Rain.half Rain.rain_total
replies_computed = refl

-- ---- the two runs
pub opens_A : Opens 2024 4 11 (30000 ∷ 40001 ∷ 50000 ∷ []) (1 ∷ 0 ∷ 1 ∷ [])
unfolding openable_in can_open is_date days_in
opens_A = record { accepted = refl }

pub has_A : Has (30000 ∷ 40001 ∷ 50000 ∷ []) (1 ∷ 0 ∷ 1 ∷ []) 40001 0
has_A = record { index = 1; inside = omega arith; number = refl; climate = refl }

opens_B : Opens 2024 4 11 (40001 ∷ 99999 ∷ []) (0 ∷ 0 ∷ [])
unfolding openable_in can_open is_date days_in
opens_B = record { accepted = refl }

has_B : Has (40001 ∷ 99999 ∷ []) (0 ∷ 0 ∷ []) 40001 0
has_B = record { index = 0; inside = omega arith; number = refl; climate = refl }

abbrev pub store_a : List ℕ
store_a = opened 2024 4 11 (30000 ∷ 40001 ∷ 50000 ∷ []) (1 ∷ 0 ∷ 1 ∷ [])

abbrev pub store_b : List ℕ
store_b = opened 2024 4 11 (40001 ∷ 99999 ∷ []) (0 ∷ 0 ∷ [])

pub alike_A_B : Alike step 40001 store_a store_b calls_a calls_b
alike_A_B =
    (demand3.alike 2024 4 11 40001 0 (30000 ∷ 40001 ∷ 50000 ∷ []) (1 ∷ 0 ∷ 1 ∷ []) (40001 ∷ 99999 ∷ []) (0 ∷ 0 ∷ []) calls_a calls_b opens_A has_A
    opens_B has_B (naming_A ∙ sym naming_B)
    ).2

pub answers_A : answers (naming_log 40001 (log step calls_a store_a)) ≡ replies
answers_A =
    ap answers (shows (all_lawful report_bounds) calls_a (holds_opened 2024 4 11 40001 0 _ _ opens_A has_A)).answers
    ∙ ap (λ (cs : List Call). answers (own_log (date 2024 4 11) (new_station 40001 0) cs)) naming_A
    ∙ replies_asked (date 2024 4 11) (new_station 40001 0) own
    ∙ ap (replies_to (date 2024 4 11) (new_station 40001 0)) asked_own
    ∙ replies_computed

pub answers_B : answers (naming_log 40001 (log step calls_b store_b)) ≡ replies
answers_B = ap answers (sym alike_A_B.answers) ∙ answers_A
