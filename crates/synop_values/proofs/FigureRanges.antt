-- What callers need of the rules: each value fits a cell, and each of a head's values its range.
-- Assumes nothing.
use mathlib.Core.Path.{refl}
use mathlib.Core.Logic.{inr}
use Prim.Native.Nat.{ℕ, ◌<◌, ◌≤◌}
use native.Mathlib.Omega.{arith}
use lib.Dec.{lit≤}
use Rattle.synop_values.specs.Value.{Value, missing, read, humidity, dew_point, Within}
use Rattle.synop_values.proofs.CodeRanges.{temperature_of_within, moisture_of_within, pressure_of_within, wind_of_within, cloud_of_within, visibility_of_within, rain_of_within, rain_indicator_of_range, Direction, wind_direction_of_range}
use Rattle.synop_values.specs.Digits.{Below, digit, two, three, four, given}
use Rattle.std.specs.Prelude.{Option, None, Some}
use Rattle.synop_text.specs.declared.Characters.{Characters}
use Rattle.synop_values.specs.OneGroup as group
use Rattle.synop_values.specs.Elements.{temperature, moisture, pressure, wind_ff, wind_fff, cloud, visibility, rain}
use Rattle.synop_values.specs.Indicators.{rain_indicator, wind_direction, rain_duration, rain_duration_of, kept}
use Rattle.synop_values.proofs.Numbers.{digit_below, two_below, three_below, four_below}

-- what holds of d, and of f at each number below k, holds of the value that m gives
module _ {A : Type 0} (P : A → Type 0) {d : A} {f : ℕ → A} {k : ℕ} where
  pub given_all : (m : Option ℕ) → Below k m → P d → ((n : ℕ) → n < k → P (f n)) → P (given m d f)
  given_all None h p q = p
  given_all (Some n) h p q = q n h

-- and what holds of d, and of f at each group, of what the part gives
module _ {A : Type 0} (P : A → Type 0) {d : A} {f : Characters → A} where
  given_part : (part : Option Characters) → P d → ((x : Characters) → P (f x)) → P (given part d f)
  given_part None p q = p
  given_part (Some x) p q = q x

-- ---- each element's value fits a cell
pub temperature_within : (e : ℕ) (part : Option Characters) → Within e (group.temperature part)
unfolding group.temperature temperature
temperature_within e part =
    given_part (Within e) part tt (λ x. given_all (Within e) (three x.c x.d x.e) (three_below x.c x.d x.e) tt (temperature_of_within e x.b))

pub moisture_within : (part : Option Characters) → Within dew_point (group.moisture part)
unfolding group.moisture moisture
moisture_within part =
    given_part (Within dew_point) part tt
    (λ x. given_all (Within dew_point) (three x.c x.d x.e) (three_below x.c x.d x.e) tt (moisture_of_within x.b))

pub pressure_within : (e : ℕ) (part : Option Characters) → Within e (group.pressure part)
unfolding group.pressure pressure
pressure_within e part =
    given_part (Within e) part tt (λ x. given_all (Within e) (four x.b x.c x.d x.e) (four_below x.b x.c x.d x.e) tt (pressure_of_within e x.b))

pub wind_ff_within : (e : ℕ) (time wind : Option Characters) → Within e (group.wind_ff time wind)
unfolding group.wind_ff wind_ff
wind_ff_within e time wind =
    given_part (Within e) time tt
    (λ t. given_part (Within e) wind tt
    (λ x. given_all (Within e) (two x.d x.e) (two_below x.d x.e) tt (λ k h. wind_of_within e t.e k (omega arith))))

pub wind_fff_within : (e : ℕ) (time gale : Option Characters) → Within e (group.wind_fff time gale)
unfolding group.wind_fff wind_fff
wind_fff_within e time gale =
    given_part (Within e) time tt
    (λ t. given_part (Within e) gale tt
    (λ x. given_all (Within e) (three x.c x.d x.e) (three_below x.c x.d x.e) tt (wind_of_within e t.e)))

pub cloud_within : (e : ℕ) (wind : Option Characters) → Within e (group.cloud wind)
unfolding group.cloud cloud
cloud_within e wind = given_part (Within e) wind tt (λ x. given_all (Within e) (digit x.a) (digit_below x.a) tt (cloud_of_within e))

pub visibility_within : (e : ℕ) (part : Option Characters) → Within e (group.visibility part)
unfolding group.visibility visibility
visibility_within e part =
    given_part (Within e) part tt (λ x. given_all (Within e) (two x.d x.e) (two_below x.d x.e) tt (visibility_of_within e))

pub rain_within : (e : ℕ) (part : Option Characters) → Within e (group.rain part)
unfolding group.rain rain
rain_within e part =
    given_part (Within e) part tt (λ x. given_all (Within e) (three x.b x.c x.d) (three_below x.b x.c x.d) tt (rain_of_within e))

-- ---- each of a head's values is in its range
pub rain_indicator_range : (part : Option Characters) → group.rain_indicator part ≤ 5
unfolding group.rain_indicator rain_indicator
rain_indicator_range part =
    given_part (λ n. n ≤ 5) part (lit≤ tt) (λ x. given_all (λ n. n ≤ 5) (digit x.a) (digit_below x.a) (lit≤ tt) (λ n _. rain_indicator_of_range n))

-- tR 0 to 9
pub rain_duration_range : (part : Option Characters) → group.rain_duration part ≤ 9
unfolding group.rain_duration rain_duration rain_duration_of
rain_duration_range part =
    given_part (λ n. n ≤ 9) part (lit≤ tt)
    (λ x. either (rain x.b x.c x.d) (given_all (λ n. n ≤ 9) (digit x.e) (digit_below x.e) (lit≤ tt) (λ n h. omega arith)))
  where
    either : (v : Value) {n : ℕ} → n ≤ 9 → kept v n ≤ 9
    either missing h = lit≤ tt
    either (read z) h = h
    either (humidity u) h = h

-- dd 0 to 36, 99 or 100
pub wind_direction_range : (wind : Option Characters) → Direction (group.wind_direction wind)
unfolding group.wind_direction wind_direction
wind_direction_range wind =
    given_part Direction wind (inr (inr refl))
    (λ x. given_all Direction (two x.b x.c) (two_below x.b x.c) (inr (inr refl)) (λ n _. wind_direction_of_range n))
