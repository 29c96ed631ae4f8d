-- The line of a station, from what the code's answer says.
-- Assumes nothing.
use mathlib.Core.Path.{◌≡◌, refl, sym, ◌∙◌, ap}
use mathlib.Core.List.{List, []}
use Prim.Native.Nat.{ℕ}
use Rattle.std.specs.Prelude.{Result, Ok, Err}
use Rattle.daily.specs.Coded.{Says}
use Rattle.daily.specs.Line as Line
use Rattle.daily.specs.declared.DayLine.{DayLine}
use Rattle.engine_answers.specs.Replies.{SaysDay}
use Rattle.refusals.specs.Refusals.{number}
use Rattle.refusals.specs.declared.Refusal.{Refusal}
use Rattle.rules.specs.Calls.{a_day, day}
use Rattle.rules.specs.Step.{step}
use Rattle.rules.proofs.Answers.{is_refused, IsDay, is_day}
use Rattle.dayline_text.specs.Printed.{day_text}
use Rattle.dayline_day.specs.Printed.{settled, line_of, Printed}

said : (station : ℕ) (l : DayLine) (d : Line.DayLine) → Says l d → day_text station l ≡ line_of station (a_day d)
said station l d v = rw (v.rain, v.warmest, v.coldest, v.read, v.corrected, v.filled, v.missing) refl

-- r is the code's answer on the bytes s
module _ (station : ℕ) (s : List ℕ) (r : Result DayLine Refusal) (v : SaysDay r (step (day station) s).answer) (text : List ℕ) where
  pub line_shown : (l : DayLine) → r ≡ Ok l → text ≡ day_text station l → text ≡ line_of station (step (day station) s).answer
  line_shown l q w = w ∙ said station l i.line i.holds ∙ sym (ap (line_of station) i.answer)
    where
      i : IsDay (Says l) (step (day station) s).answer
      i = is_day (Says l) _ (rw q at v)

  pub line_none : (k : Refusal) → r ≡ Err k → text ≡ [] → text ≡ line_of station (step (day station) s).answer
  line_none k q w = w ∙ sym (ap (line_of station) (is_refused (number k) _ (rw q at v)))

-- the store is settled first, to the bytes t
pub printed : (station : ℕ) (s : List ℕ) {t : List ℕ} → t ≡ settled station s → (text : List ℕ) → text ≡ line_of station (step (day station) t).answer → Printed station s t text
printed station s e text w = record { left = e; shows = w ∙ ap (λ (x : List ℕ). line_of station (step (day station) x).answer) e }
