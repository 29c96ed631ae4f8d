-- S-5, "Dry stations count as dry": what R and tR are in the slot where a report is filed.
-- Assumes nothing.
use Rattle.std.specs.Prelude.{Bool, not, cond, ◌&&◌, ◌||◌, List, ℕ, eqb, pos, get_or, set}
use Rattle.quality.specs.Elements as element
use Rattle.synop_values.specs.Value.{Value, missing, read}
use Rattle.synop.specs.declared.contents.Indicators.{Indicators}

-- "where R is absent from the report and iR is 3"; "A group 6 that is present wins over iR, even if its value is missing"
abbrev pub is_dry : Indicators → Bool
is_dry h = eqb h.rain_indicator 3 && not h.rain_sent

-- "R reads as 0, with tR 2 at slots 0, 4 and 8 and tR 1 at slots 2 and 6; at other slots it stays missing", and tR is 0 there
abbrev pub dry_duration : ℕ → ℕ
dry_duration k = cond (eqb k 0 || eqb k 4 || eqb k 8) 2 (cond (eqb k 2 || eqb k 6) 1 0)

abbrev pub dry_rain : ℕ → Value
dry_rain k = cond (eqb (dry_duration k) 0) missing (read (pos 0))

-- tR, and the nine values with R, of a report as slot k gets them
abbrev pub filed_duration : ℕ → Indicators → ℕ
filed_duration k h = cond (is_dry h) (dry_duration k) h.rain_duration

abbrev pub filed_rain : ℕ → Indicators → Value → Value
filed_rain k h r = cond (is_dry h) (dry_rain k) r

abbrev pub filed_values : ℕ → Indicators → List Value → List Value
filed_values k h values = set values element.rain (filed_rain k h (get_or values element.rain missing))
