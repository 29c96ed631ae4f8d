-- What the calls' answers say, in the paper's terms: "When an answer is an enum, a definition gives this paper's number and values for each
-- of its cases, and the promises use that definition."
-- Assumes nothing.
use Rattle.std.specs.Prelude.{◌≡◌, cond, List, ℕ, length, Result, Ok, Err}
use Rattle.daily.specs.Coded.{Says}
use Rattle.store_layout.specs.Form.{Form, ours}
use Rattle.store_layout.specs.Opening.{openable_in, fresh}
use Rattle.daily.specs.declared.DayLine.{DayLine}
use Rattle.quality.specs.Cell.{Cell}
use Rattle.refusals.specs.declared.Refusal.{Refusal}
use Rattle.refusals.specs.Refusals.{number}
use Rattle.rules.specs.Calls.{Answer, refused, accepted, a_cell, on_refused, on_day}
use Rattle.rules.specs.Step.{Outcome}

-- of open, file, settle, begin and step
abbrev pub reply : Result (Unit {0}) Refusal → Answer
reply (Ok u) = accepted
reply (Err r) = refused (number r)

-- of cell
abbrev pub cell_reply : Result Cell Refusal → Answer
cell_reply (Ok c) = a_cell c
cell_reply (Err r) = refused (number r)

-- of day: the code's line has each mean as a float, the paper's the eightfold sum that it is an eighth of
abbrev pub SaysDay : Result DayLine Refusal → Answer → Type 0
SaysDay (Ok l) a = on_day (Says l) ⊥ a
SaysDay (Err r) a = on_refused (λ m. number r ≡ m) ⊥ a

-- a call answered a and left the bytes t, as the outcome o says
pub record Did (o : Outcome) (a : Answer) (t : List ℕ) : Type 0 where
  pub answer : a ≡ o.answer
  pub left : t ≡ o.store

-- an open: "Open tests only 10." It meets any buffer
unfoldable pub open_in : Form → List ℕ → ℕ → ℕ → ℕ → List ℕ → List ℕ → Outcome
open_in form s year month day numbers rows =
    cond (openable_in form (length s) year month day numbers rows)
    (record { answer = accepted; store = form.encode (fresh year month day numbers rows) })
    (record { answer = refused 10; store = s })

abbrev pub open_outcome : List ℕ → ℕ → ℕ → ℕ → List ℕ → List ℕ → Outcome
open_outcome = open_in ours
