-- What callers need of the groups' contents: whatever the groups are, the indicators and the values are in their ranges.
-- Assumes nothing.
use mathlib.Core.Path.{◌≡◌, refl}
use mathlib.Core.Bool.{Bool, true, false, cond}
use mathlib.Core.List.{List, [], ◌∷◌}
use Prim.Native.Nat.{ℕ, suc, ◌≤◌}
use lib.ListN.{length}
use Rattle.synop_values.specs.Value.{Value, Within}
use Rattle.synop_values.proofs.CodeRanges.{Direction}
use Rattle.synop_values.specs.OneGroup as group
use Rattle.synop_values.proofs.FigureRanges as bounds
use Rattle.std.specs.Prelude.{Option}
use Rattle.std.specs.Option.{is_some}
use Rattle.synop_text.specs.declared.Characters.{Characters}
use Rattle.synop_parts.specs.Parts.{part}
use Rattle.synop_parts.specs.declared.Part.TheVariants as which
use Rattle.synop.specs.Contents.{indicators_of, wind_of, values_of}
use Rattle.synop.specs.declared.contents.Indicators.{Indicators}

-- iR 0 to 5, tR 0 to 9, dd 0 to 36, 99 or 100
pub record IndicatorsFit (d : Indicators) : Type 0 where
  pub indicator : d.rain_indicator ≤ 5
  pub duration : d.rain_duration ≤ 9
  pub direction : Direction d.wind_direction

-- each value fits the cell of its element, the first being that of element e
abbrev pub AllWithin : ℕ → List Value → Type 0
AllWithin e [] = Unit {0}
AllWithin e (v ∷ vs) = Within e v × AllWithin (suc e) vs

pub record ValuesFit (vs : List Value) : Type 0 where
  pub nine : length vs ≡ 9
  pub each : AllWithin 0 vs

-- ---- of any groups
pub indicators_fit : (visibility wind rain : Option Characters) → IndicatorsFit (indicators_of visibility wind rain)
unfolding indicators_of
indicators_fit visibility wind rain =
    record { indicator = bounds.rain_indicator_range visibility; duration = bounds.rain_duration_range rain; direction = bounds.wind_direction_range wind }

wind_within : (e : ℕ) (time wind gale : Option Characters) → Within e (wind_of time wind gale)
unfolding wind_of
wind_within e time wind gale = either (is_some gale) (group.wind_fff time gale) (group.wind_ff time wind) (bounds.wind_fff_within e time gale) (bounds.wind_ff_within e time wind)
  where
    either : (b : Bool) (v w : Value) → Within e v → Within e w → Within e (cond b v w)
    either true v w h k = h
    either false v w h k = k

pub values_fit : (kept : List (Option Characters)) (rain : Option Characters) → ValuesFit (values_of kept rain)
unfolding values_of
values_fit kept rain =
    let g = part kept in
    record {
      nine = refl;
      each = (
        bounds.temperature_within 0 (g which.Temperature),
        (
          bounds.moisture_within (g which.DewPoint),
          (
            bounds.pressure_within 2 (g which.Pressure),
            (
              wind_within 3 (g which.Time) (g which.Wind) (g which.Gale),
              (
                bounds.cloud_within 4 (g which.Wind),
                (
                  bounds.visibility_within 5 (g which.Visibility),
                  (bounds.rain_within 6 rain, (bounds.temperature_within 7 (g which.Maximum), (bounds.temperature_within 8 (g which.Minimum), tt))),
                ),
              ),
            ),
          ),
        ),
      );
    }
