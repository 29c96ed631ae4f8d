-- What the groups of a report hold: document 01, "Values", as functions of the groups.
-- Assumes nothing.
use Rattle.std.specs.Prelude.{cond, List, [], ◌∷◌, ℕ, ◌+◌, ◌*◌, Option}
use Rattle.std.specs.Option.{is_some, unwrap_or, option_map_or}
use Rattle.synop_values.specs.Digits.{digit, two, four}
use Rattle.synop_values.specs.OneGroup as group
use Rattle.synop_values.specs.Value.{Value, meaning, moisture}
use Rattle.synop_text.specs.declared.Characters.{Characters}
use Rattle.synop_parts.specs.Parts.{part}
use Rattle.synop_parts.specs.declared.Part.TheVariants as which
use Rattle.synop.specs.declared.contents.Identification.{Identification}
use Rattle.synop.specs.declared.contents.Indicators.{Indicators}
use Rattle.synop.specs.declared.contents.Values.{Values}

-- ---- one group
-- a number whose digits check 3 has seen
abbrev pub number_of : Option ℕ → ℕ
number_of n = unwrap_or n 0

unfoldable pub two_of : ℕ → ℕ → ℕ
two_of a b = number_of (two a b)

-- IIiii
unfoldable pub station_of : Characters → ℕ
station_of x = 10 * number_of (four x.a x.b x.c x.d) + number_of (digit x.e)

-- IIiii, and YY and GG of YYGGiw; 0 of a group that was not sent
unfoldable pub identification_of : Option Characters → Option Characters → Identification
identification_of time station =
    record {
      station = option_map_or station_of station 0;
      day = option_map_or (λ x. two_of x.a x.b) time 0;
      hour = option_map_or (λ x. two_of x.c x.d) time 0;
    }

-- iR of iRixhVV, whether 6RRRtR was sent, be its characters `/` or not, its tR, dd of Nddff
unfoldable pub indicators_of : Option Characters → Option Characters → Option Characters → Indicators
indicators_of visibility wind rain =
    record {
      rain_indicator = group.rain_indicator visibility;
      rain_sent = is_some rain;
      rain_duration = group.rain_duration rain;
      wind_direction = group.wind_direction wind;
    }

-- W "from ff, or from fff where 00fff stands"
unfoldable pub wind_of : Option Characters → Option Characters → Option Characters → Value
wind_of time wind gale = cond (is_some gale) (group.wind_fff time gale) (group.wind_ff time wind)

-- ---- the nine elements, "in the order T, D, P, W, C, V, R, X, M"
-- of a report's parts, where rain is read from the group `rain`
unfoldable pub values_of : List (Option Characters) → Option Characters → List Value
values_of kept rain =
    group.temperature (part kept which.Temperature)
    ∷ group.moisture (part kept which.DewPoint)
    ∷ group.pressure (part kept which.Pressure)
    ∷ wind_of (part kept which.Time) (part kept which.Wind) (part kept which.Gale)
    ∷ group.cloud (part kept which.Wind)
    ∷ group.visibility (part kept which.Visibility)
    ∷ group.rain rain
    ∷ group.temperature (part kept which.Maximum)
    ∷ group.temperature (part kept which.Minimum)
    ∷ []

-- the code's nine, as values
abbrev pub listed : Values → List Value
listed v =
    meaning v.temperature
    ∷ moisture v.moisture
    ∷ meaning v.pressure
    ∷ meaning v.wind
    ∷ meaning v.cloud
    ∷ meaning v.visibility
    ∷ meaning v.rain
    ∷ meaning v.maximum
    ∷ meaning v.minimum
    ∷ []
