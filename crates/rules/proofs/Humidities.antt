-- S-2 at work: the day line of a station that sent a humidity of 50 percent at the slots 0 to 7, with a T of 0 at all of them but slot 3, where
-- the fill step puts it. The table's entry at 0 is 612, so each slot has floor((612·50 + 50) / 100) = 306, and the slot 3 is mended.
--     humid_day
-- Assumes nothing.
use mathlib.Core.Path.{◌≡◌, refl}
use mathlib.Core.Bool.{false}
use mathlib.Core.List.{List, [], ◌∷◌}
use Rattle.std.specs.Prelude.{None, Some}
use lib.IntN.{pos}
use Rattle.laws.specs.Table.{table}
use Rattle.synop_values.specs.Value.{Value, missing, read, humidity}
use Rattle.quality.specs.Steps
use Rattle.quality.specs.Settled
use Rattle.vapour.specs.Vapour
use Rattle.daily.specs.Counts
use Rattle.daily.specs.Extremes
use Rattle.daily.specs.Line
use Rattle.daily.specs.Line.{DayLine}
use Rattle.daily.specs.Means.{absent, mended, sum, average, vapour_column}
use Rattle.daily.specs.Rain
use Rattle.store_layout.specs.Model.{Station}
use Rattle.store_layout.specs.Updates.{with_slot, with_checked, with_copies, with_block}
use Rattle.synop.specs.declared.contents.Indicators.{Indicators}
use Rattle.rules.specs.Calls.{a_day}
use Rattle.rules.specs.Rules
use Rattle.rules.specs.Rules.{filed, settled_station, day_of}
use Rattle.rules.proofs.Isolation.{new_station, date}

abbrev head : Indicators
head = record { rain_indicator = 4; rain_sent = false; rain_duration = 0; wind_direction = 100 }

-- a report of that T and a humidity of 50 percent
abbrev sent : Value → List Value
sent t = t ∷ humidity 50 ∷ missing ∷ missing ∷ missing ∷ missing ∷ missing ∷ missing ∷ missing ∷ []

abbrev station : Station
station =
    filed 0 0 head (sent (read (pos 0)))
    (filed 1 0 head (sent (read (pos 0)))
    (filed 2 0 head (sent (read (pos 0)))
    (filed 3 0 head (sent missing)
    (filed 4 0 head (sent (read (pos 0)))
    (filed 5 0 head (sent (read (pos 0))) (filed 6 0 head (sent (read (pos 0))) (filed 7 0 head (sent (read (pos 0))) (new_station 40001 0))))))))

abbrev line : DayLine
line =
    record {
      temperature = mended (pos 0);
      dew_point = absent;
      pressure = absent;
      wind = absent;
      cloud = absent;
      vapour = mended (pos 2448);
      rain = None;
      warmest = Some 7;
      coldest = Some 0;
      read = 15;
      corrected = 0;
      filled = 1;
      missing = 65;
    }

pub humid_day : day_of (settled_station (date 2024 4 11) station) ≡ a_day line
unfolding table with_slot with_checked with_copies with_block
    Rules.filed Rules.copy_step Rules.step_done Rules.settled_station Rules.day_of
    Steps.range_cell Steps.dew_cell Steps.wind_cell Steps.maximum_below_minimum Steps.spike_cell Steps.time_cell Steps.fill_cell Steps.between Steps.range_column Steps.dew_column Steps.wind_column Steps.suspect_at
    Settled.range Settled.internal Settled.time_of Settled.time Settled.fill_of Settled.fill
    Vapour.term Vapour.sum_to Vapour.Z Vapour.entry Vapour.pressure
    Counts.in_column Counts.in_sheet Extremes.on_ties Extremes.warmest Extremes.coldest Line.day_line sum average vapour_column Rain.half Rain.rain_total
humid_day = refl
