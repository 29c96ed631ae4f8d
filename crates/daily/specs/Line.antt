-- The day line of a station, from its slot heads and its checked sheet.
-- Assumes nothing.
use Rattle.std.specs.Prelude.{List, ℕ, ℤ, Option}
use Rattle.quality.specs.declared.head.SlotHead.{SlotHead}
use Rattle.quality.specs.Cell.{Cell}
use Rattle.quality.specs.Elements.{column, temperature, dew_point, pressure, wind, cloud, rain}
use Rattle.daily.specs.Means.{Average, average, vapour_column}
use Rattle.daily.specs.Rain.{rain_total}
use Rattle.daily.specs.Extremes as Extremes
use Rattle.daily.specs.Counts.{count}

pub record DayLine : Type 0 where
  pub temperature : Average
  pub dew_point : Average
  pub pressure : Average
  pub wind : Average
  pub cloud : Average
  pub vapour : Average
  pub rain : Option ℤ
  pub warmest : Option ℕ
  pub coldest : Option ℕ
  pub read : ℕ
  pub corrected : ℕ
  pub filled : ℕ
  pub missing : ℕ

unfoldable pub day_line : List SlotHead → List (List Cell) → DayLine
day_line heads s =
    record {
      temperature = average (column s temperature);
      dew_point = average (column s dew_point);
      pressure = average (column s pressure);
      wind = average (column s wind);
      cloud = average (column s cloud);
      vapour = average (vapour_column (column s temperature) (column s dew_point));
      rain = rain_total heads (column s rain);
      warmest = Extremes.warmest (column s temperature);
      coldest = Extremes.coldest (column s temperature);
      read = count 1 s;
      corrected = count 2 s;
      filled = count 3 s;
      missing = count 0 s;
    }
