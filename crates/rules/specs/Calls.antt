-- Calls, answers, and what a call asks of whom.
-- Assumes nothing.
use Rattle.std.specs.Prelude.{Bool, true, false, cond, List, ℕ}
use Rattle.synop_values.specs.Value.{Value}
use Rattle.daily.specs.Line.{DayLine}
use Rattle.quality.specs.Cell.{Cell}
use Rattle.store_layout.specs.Valid.{is_rank}
use Rattle.synop.specs.Report.{Report, report}
use Rattle.synop.specs.declared.contents.Indicators.{Indicators}

-- "Two calls are the same if their kind and their arguments other than the store are, a text byte for byte."
-- S-3: "Filing takes a rank"; "with the rank as part of each filing call". S-6: "The lists of demand 3 may then hold begin and step calls as
-- well"
pub data Call : Type 0 where
  file : List ℕ → ℕ → Call
  settle : ℕ → Call
  begin : ℕ → Call
  step : ℕ → Call
  cell : ℕ → ℕ → ℕ → Call
  day : ℕ → Call

-- "An answer is all that a call returns: a refusal's number, the whole cell or day line, or, from an accepted file or settle, that it was
-- accepted." S-6: begin and step calls, "where accepted, answer as an accepted settle does"
pub data Answer : Type 0 where
  refused : ℕ → Answer
  accepted : Answer
  a_cell : Cell → Answer
  a_day : DayLine → Answer

-- ---- by the kind of an answer: what is said of that kind, and what of all others. Whoever reads an answer does so through these, so that a
-- new kind is added here alone
abbrev pub on_refused {ℓ} : {A : Type ℓ} → (ℕ → A) → A → Answer → A
on_refused f other (refused n) = f n
on_refused f other accepted = other
on_refused f other (a_cell c) = other
on_refused f other (a_day d) = other

abbrev pub if_accepted {ℓ} : {A : Type ℓ} → A → A → Answer → A
if_accepted this other (refused n) = other
if_accepted this other accepted = this
if_accepted this other (a_cell c) = other
if_accepted this other (a_day d) = other

abbrev pub on_cell {ℓ} : {A : Type ℓ} → (Cell → A) → A → Answer → A
on_cell f other (refused n) = other
on_cell f other accepted = other
on_cell f other (a_cell c) = f c
on_cell f other (a_day d) = other

abbrev pub on_day {ℓ} : {A : Type ℓ} → (DayLine → A) → A → Answer → A
on_day f other (refused n) = other
on_day f other accepted = other
on_day f other (a_cell c) = other
on_day f other (a_day d) = f d

-- whether a report was accepted, by the answer to it
abbrev pub is_accepted : Answer → Bool
is_accepted a = if_accepted true false a

-- what is asked of a station: to take a NIL of that day, hour and rank, to take a report of that day, hour and rank with its head and nine
-- values, to settle, to begin a settling, to do the step that is due, to give the checked cell of an element and slot, to give its day line
pub data Request : Type 0 where
  take_nil : ℕ → ℕ → ℕ → Request
  take : ℕ → ℕ → ℕ → Indicators → List Value → Request
  settling : Request
  beginning : Request
  stepping : Request
  give_cell : ℕ → ℕ → Request
  give_day : Request

-- what a call asks: of nobody, with the number of its refusal; of a station; or it names a station and is refused with this number,
-- whatever the store holds
pub data Ask : Type 0 where
  unnamed : ℕ → Ask
  named : ℕ → Request → Ask
  denied : ℕ → ℕ → Ask

-- "A filed text names S exactly if it passes checks 1 to 5 and its IIiii is S."
abbrev pub ask_file : ℕ → Report → Ask
ask_file rank (Report.refused n) = unnamed n
ask_file rank (Report.nil h) = named h.station (take_nil h.day h.hour rank)
ask_file rank (Report.whole h head values) = named h.station (take h.day h.hour rank head values)

-- refused with n before anything else is looked at: whom the call names is the same
abbrev pub deny : ℕ → Ask → Ask
deny n (unnamed m) = unnamed n
deny n (named x request) = denied x n
deny n (denied x m) = denied x n

-- S-3: 13, "a rank above 24 .. is tested right after 9"; a text names its station at any rank
abbrev pub ranked : ℕ → Ask → Ask
ranked rank a = cond (is_rank rank) a (deny 13 a)

-- "Settle, cell and day name theirs."; S-6: begin and step calls "name their station"
abbrev pub ask : Call → Ask
ask (file text rank) = ranked rank (ask_file rank (report text))
ask (settle s) = named s settling
ask (begin s) = named s beginning
ask (step s) = named s stepping
ask (cell s e k) = named s (give_cell e k)
ask (day s) = named s give_day
