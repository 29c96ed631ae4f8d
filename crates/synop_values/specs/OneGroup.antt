-- What one group means, by its characters: document 01, "Values", and the head's iR, tR and dd of "The store".
-- Assumes nothing.
use Rattle.std.specs.Prelude.{ℕ, Option}
use Rattle.synop_values.specs.Value.{Value, missing}
use Rattle.synop_text.specs.declared.Characters.{Characters}
use Rattle.synop_values.specs.Digits.{given}
use Rattle.synop_values.specs.Elements as elements
use Rattle.synop_values.specs.Indicators as indicators

-- ---- values of the elements; a group that was not sent gives none
-- T, X, M of 1sTTT, 2sTTT
unfoldable pub temperature : Option Characters → Value
temperature part = given part missing (λ x. elements.temperature x.b x.c x.d x.e)

-- D of 2sTTT, or a humidity of 29UUU: group 2 of section 1
unfoldable pub moisture : Option Characters → Value
moisture part = given part missing (λ x. elements.moisture x.b x.c x.d x.e)

-- P of 4PPPP
unfoldable pub pressure : Option Characters → Value
pressure part = given part missing (λ x. elements.pressure x.b x.c x.d x.e)

-- W "from ff" of Nddff, iw being that of YYGGiw
unfoldable pub wind_ff : Option Characters → Option Characters → Value
wind_ff time wind = given time missing (λ t. given wind missing (λ x. elements.wind_ff t.e x.d x.e))

-- W "from fff" of 00fff
unfoldable pub wind_fff : Option Characters → Option Characters → Value
wind_fff time gale = given time missing (λ t. given gale missing (λ x. elements.wind_fff t.e x.c x.d x.e))

-- C, from N of Nddff
unfoldable pub cloud : Option Characters → Value
cloud wind = given wind missing (λ x. elements.cloud x.a)

-- V, from VV of iRixhVV
unfoldable pub visibility : Option Characters → Value
visibility part = given part missing (λ x. elements.visibility x.d x.e)

-- R of 6RRRtR
unfoldable pub rain : Option Characters → Value
rain part = given part missing (λ x. elements.rain x.b x.c x.d)

-- ---- a slot's head
-- iR of iRixhVV
unfoldable pub rain_indicator : Option Characters → ℕ
rain_indicator part = given part 5 (λ x. indicators.rain_indicator x.a)

-- tR of 6RRRtR
unfoldable pub rain_duration : Option Characters → ℕ
rain_duration part = given part 0 (λ x. indicators.rain_duration x.b x.c x.d x.e)

-- dd of Nddff
unfoldable pub wind_direction : Option Characters → ℕ
wind_direction wind = given wind 100 (λ x. indicators.wind_direction x.b x.c)
