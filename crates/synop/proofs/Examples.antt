-- Document 01's own examples, computed on the definitions: the texts of the table of refusals, and the report of the printed day.
-- Then reports with and without a group 6 that counts, and with a humidity.
-- Assumes nothing.
use mathlib.Core.Path.{◌≡◌, refl}
use mathlib.Core.Bool.{Bool, true, false}
use mathlib.Core.List.{List, [], ◌∷◌}
use Prim.Native.Nat.{ℕ, zero, suc}
use Prim.Native.Char.{code}
use Prim.Native.String.{String, len, char_at}
use lib.IntN.{pos}
use Rattle.laws.specs.Table.{table}
use Rattle.synop_values.specs.Tables as tables
use Rattle.synop_values.specs.Digits.{two, three, four}
use Rattle.synop_values.specs.Elements as elements
use Rattle.synop_values.specs.Indicators as indicators
use Rattle.synop_values.specs.OneGroup as group
use Rattle.synop_values.specs.Value.{Value, missing, read, humidity}
use Rattle.synop_text.specs.Characters.{are_figures}
use Rattle.synop_text.specs.Groups.{cut}
use Rattle.synop_text.specs.Kinds as kinds
use Rattle.synop_text.specs.Kinds.{characters_of}
use Rattle.synop_text.specs.Places as places
use Rattle.synop_checks.specs.Bytes.{ended, check1, is_known, check2}
use Rattle.synop_checks.specs.Shapes.{are_digits, shaped_from}
use Rattle.synop_checks.specs.Ranges.{is_day, is_hour, is_unit, is_time, is_station, ranged_from}
use Rattle.synop_checks.specs.Refusal.{of_groups, refusal}
use Rattle.synop.specs.Contents as contents
use Rattle.synop_parts.specs.Parts as parts
use Rattle.synop.specs.Report as reports
use Rattle.synop.specs.Report.{Report, whole, report}

-- ---- the texts
-- the bytes of a text, n of them from the i-th on
unfoldable pub bytes_from : ℕ → ℕ → String → List ℕ
bytes_from zero i s = []
bytes_from (suc n) i s = code (char_at s i) ∷ bytes_from n (suc i) s

unfoldable pub bytes : String → List ℕ
bytes s = bytes_from (len s) 0 s

-- what a report without T, D, P, W, C, V, X and M gives for iR 3, a group 6 sent or not, and R missing
abbrev no_rain : Bool → Report
no_rain sent =
    whole (record { station = 40001; day = 11; hour = 6 }) (record { rain_indicator = 3; rain_sent = sent; rain_duration = 0; wind_direction = 100 })
    (missing ∷ missing ∷ missing ∷ missing ∷ missing ∷ missing ∷ missing ∷ missing ∷ missing ∷ [])

-- what one gives that has group 2 alone, as D and as M
abbrev group_2 : Value → Report
group_2 d =
    whole (record { station = 40001; day = 11; hour = 6 }) (record { rain_indicator = 3; rain_sent = false; rain_duration = 0; wind_direction = 100 })
    (missing ∷ d ∷ missing ∷ missing ∷ missing ∷ missing ∷ missing ∷ missing ∷ missing ∷ [])

pub record Examples : Type 0 where
  pub one : refusal (bytes "AAXX") ≡ 1
  pub two : refusal (bytes "aaxx=") ≡ 2
  pub three : refusal (bytes "=") ≡ 3
  pub four : refusal (bytes "AAXX 11062 40001 NIL=") ≡ 4
  pub five : refusal (bytes "AAXX 11061=") ≡ 5
  pub day :
      report (bytes "AAXX 11061 40001 12360 62704 10103 20071 40132 60042=")
      ≡ whole (record { station = 40001; day = 11; hour = 6 }) (record { rain_indicator = 1; rain_sent = true; rain_duration = 2; wind_direction = 27 })
      (read (pos 103) ∷ read (pos 71) ∷ read (pos 10132) ∷ read (pos 40) ∷ read (pos 6) ∷ read (pos 100) ∷ read (pos 40) ∷ missing ∷ missing ∷ [])
  -- "6RRRtR of section 1, or, where that group is not there, of section 3": sent, though R is missing; in a 55 run; not at all
  pub slashes : report (bytes "AAXX 11061 40001 3//// ///// 6////=") ≡ no_rain true
  pub later : report (bytes "AAXX 11061 40001 3//// ///// 333 6////=") ≡ no_rain true
  pub run : report (bytes "AAXX 11061 40001 3//// ///// 333 55300 60042=") ≡ no_rain false
  pub dry : report (bytes "AAXX 11061 40001 3//// /////=") ≡ no_rain false
  -- S-2: "a humidity in percent (001 to 100) or nothing", in group 2 of section 1 alone
  pub percent_1 : report (bytes "AAXX 11061 40001 3//// ///// 29001=") ≡ group_2 (humidity 1)
  pub percent_100 : report (bytes "AAXX 11061 40001 3//// ///// 29100=") ≡ group_2 (humidity 100)
  pub percent_0 : report (bytes "AAXX 11061 40001 3//// ///// 29000=") ≡ group_2 missing
  pub percent_101 : report (bytes "AAXX 11061 40001 3//// ///// 29101=") ≡ group_2 missing
  pub percent_slash : report (bytes "AAXX 11061 40001 3//// ///// 2905/=") ≡ group_2 missing
  pub no_minimum : report (bytes "AAXX 11061 40001 3//// ///// 333 29050=") ≡ group_2 missing

pub examples : Examples
unfolding bytes bytes_from table two three four elements.temperature tables.temperature_of elements.moisture tables.moisture_of tables.humidity_of elements.pressure tables.pressure_of elements.wind_ff tables.wind_of elements.cloud tables.cloud_of elements.visibility tables.visibility_of elements.rain tables.rain_of indicators.rain_indicator tables.rain_indicator_of indicators.wind_direction tables.wind_direction_of indicators.rain_duration indicators.rain_duration_of are_figures cut kinds.kind_of kinds.of_three kinds.of_four kinds.of_five places.aaxx_after places.opened places.ordered places.first_of_one places.final places.complete ended check1 is_known check2 are_digits shaped_from is_day is_hour is_unit is_time is_station ranged_from of_groups refusal characters_of group.temperature group.moisture group.pressure group.wind_ff group.wind_fff group.cloud group.visibility group.rain group.rain_indicator group.rain_duration group.wind_direction contents.two_of contents.station_of contents.identification_of contents.indicators_of contents.wind_of contents.values_of parts.of_one parts.of_three parts.of_later parts.first parts.parts reports.content reports.read report
examples = record { one = refl; two = refl; three = refl; four = refl; five = refl; day = refl; slashes = refl; later = refl; run = refl; dry = refl; percent_1 = refl; percent_100 = refl; percent_0 = refl; percent_101 = refl; percent_slash = refl; no_minimum = refl }
