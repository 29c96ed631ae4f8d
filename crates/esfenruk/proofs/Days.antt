-- What a day call gives in numbers, from what the code's answer says.
--     line_same      the code's line is the paper's in the code's terms
--     returned_refused, returned_line
-- Assumes nothing.
use mathlib.Core.Path.{◌≡◌, refl, ◌∙◌, ap}
use mathlib.Core.List.{List}
use lib.IntN.{ℤ}
use lib.Ieee.{Float}
use Rattle.daily.specs.Coded.{Says}
use Rattle.daily.specs.Line as Line
use Rattle.daily.specs.declared.DayLine.{DayLine}
use Rattle.engine_answers.specs.Replies.{SaysDay}
use Rattle.refusals.specs.declared.Refusal.{Refusal}
use Rattle.refusals.specs.Refusals as refusals
use Rattle.std.specs.Prelude.{Ok, Err}
use Rattle.rules.specs.Calls.{Answer}
use Rattle.rules.proofs.Answers.{is_refused, IsDay, is_day}
use Rattle.capi.specs.Arrays.{line_of, floats, numbers}
use Rattle.esfenruk.specs.Arrays.{ExactMeans, DayReturned}

pub line_same : (l : DayLine) (d : Line.DayLine) → Says l d → l ≡ line_of d
line_same l d h = λ j.
    record {
      temperature = h.temperature.rule j;
      dew_point = h.dew_point.rule j;
      pressure = h.pressure.rule j;
      wind = h.wind.rule j;
      cloud = h.cloud.rule j;
      vapour = h.vapour.rule j;
      rain = h.rain j;
      warmest = h.warmest j;
      coldest = h.coldest j;
      read = h.read j;
      corrected = h.corrected j;
      filled = h.filled j;
      missing = h.missing j;
    }

exact : (l : DayLine) (d : Line.DayLine) → Says l d → ExactMeans d
exact l d h =
    record {
      temperature = h.temperature.exact;
      dew_point = h.dew_point.exact;
      pressure = h.pressure.exact;
      wind = h.wind.exact;
      cloud = h.cloud.exact;
      vapour = h.vapour.exact;
    }

module _ (a : Answer) (xs : List Float) (ys : List ℤ) where
  pub returned_refused : (r : Refusal) → SaysDay (Err r) a → DayReturned a xs ys (refusals.number r) xs ys
  returned_refused r h = rw (is_refused (refusals.number r) a h) (record { number = refl; floats = refl; exact = tt; numbers = refl })

  pub returned_line : (l : DayLine) → SaysDay (Ok l) a → (x : List Float) (y : List ℤ) → x ≡ floats l → y ≡ numbers l → DayReturned a xs ys 0 x y
  returned_line l h x y p q = rw i.answer (record { number = refl; floats = p ∙ ap floats same; exact = exact l i.line i.holds; numbers = q ∙ ap numbers same })
    where
      i : IsDay (Says l) a
      i = is_day (Says l) a h

      same : l ≡ line_of i.line
      same = line_same l i.line i.holds
