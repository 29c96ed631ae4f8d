-- What a slot's head keeps, from a group's characters: iR, tR and dd, by document 01, "The store" and "Values".
-- Assumes nothing.
use Rattle.std.specs.Prelude.{ℕ}
use Rattle.synop_values.specs.Value.{Value, missing, read, humidity}
use Rattle.synop_values.specs.Tables.{rain_indicator_of, wind_direction_of}
use Rattle.synop_values.specs.Digits.{digit, two, given}
use Rattle.synop_values.specs.Elements.{rain}

unfoldable pub rain_indicator : ℕ → ℕ
rain_indicator c = given (digit c) 5 rain_indicator_of

unfoldable pub wind_direction : ℕ → ℕ → ℕ
wind_direction a b = given (two a b) 100 wind_direction_of

-- tR 0 to 9; "tR `/` .. : tR kept as 0"
unfoldable pub rain_duration_of : ℕ → ℕ
rain_duration_of t = given (digit t) 0 (λ n. n)

-- "R missing: tR kept as 0"; R is no humidity
abbrev pub kept : Value → ℕ → ℕ
kept missing t = 0
kept (read r) t = t
kept (humidity u) t = t

unfoldable pub rain_duration : ℕ → ℕ → ℕ → ℕ → ℕ
rain_duration a b c t = kept (rain a b c) (rain_duration_of t)
