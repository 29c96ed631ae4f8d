-- The values of the elements from a group's characters: document 01, "Values".
-- "A `/` among a value's digits makes it missing" is `given .. missing ..`; the number's meaning is the code table's.
-- Assumes nothing.
use Rattle.std.specs.Prelude.{ℕ}
use Rattle.synop_values.specs.Value.{Value, missing}
use Rattle.synop_values.specs.Tables.{temperature_of, moisture_of, pressure_of, wind_of, cloud_of, visibility_of, rain_of}
use Rattle.synop_values.specs.Digits.{digit, two, three, four, given}

-- T, D, X, M: the sign, then three digits
unfoldable pub temperature : ℕ → ℕ → ℕ → ℕ → Value
temperature sign a b c = given (three a b c) missing (temperature_of sign)

-- D or a humidity: the sign or 9, then three digits
unfoldable pub moisture : ℕ → ℕ → ℕ → ℕ → Value
moisture sign a b c = given (three a b c) missing (moisture_of sign)

-- P: "4PPPP"
unfoldable pub pressure : ℕ → ℕ → ℕ → ℕ → Value
pressure a b c d = given (four a b c d) missing (pressure_of a)

-- W: "from ff"
unfoldable pub wind_ff : ℕ → ℕ → ℕ → Value
wind_ff iw a b = given (two a b) missing (wind_of iw)

-- W: "or from fff where 00fff stands"
unfoldable pub wind_fff : ℕ → ℕ → ℕ → ℕ → Value
wind_fff iw a b c = given (three a b c) missing (wind_of iw)

-- C: N
unfoldable pub cloud : ℕ → Value
cloud n = given (digit n) missing cloud_of

-- V: VV
unfoldable pub visibility : ℕ → ℕ → Value
visibility a b = given (two a b) missing visibility_of

-- R: RRR
unfoldable pub rain : ℕ → ℕ → ℕ → Value
rain a b c = given (three a b c) missing rain_of
