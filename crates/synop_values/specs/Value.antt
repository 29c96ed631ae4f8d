-- A value of an element, in the paper's terms, and what the code's answer stands for.
-- Assumes nothing.
use Rattle.std.specs.Prelude.{◌≡◌, ℕ, ◌≤◌, ℤ, nat_abs, Option, None, Some}
use Rattle.synop_values.specs.declared.codes.Moisture.{Moisture}
use Rattle.synop_values.specs.declared.codes.Moisture.TheVariants.{DewPoint, Humidity}

-- "Missing" means that there is no value; a value that is there is a whole number of the element's unit. In the place of D's, a humidity
-- in percent
pub data Value : Type 0 where
  missing : Value
  read : ℤ → Value
  humidity : ℕ → Value

-- what the code answers, as a value
abbrev pub meaning : Option ℤ → Value
meaning None = missing
meaning (Some z) = read z

-- S-2: "Reading group 2 now gives a dew point, a humidity in percent (001 to 100) or nothing"
abbrev pub moisture : Option Moisture → Value
moisture None = missing
moisture (Some (DewPoint z)) = read z
moisture (Some (Humidity u)) = humidity u

-- D's number among the elements "T, D, P, W, C, V, R, X, M"
abbrev pub dew_point : ℕ
dew_point = 1

-- what a cell of element e can hold: "value (16 bits, signed, −32767 to 32767)"; a humidity of 1 to 100 "in D's cell, and there alone"
abbrev pub Within : ℕ → Value → Type 0
Within e missing = Unit {0}
Within e (read z) = nat_abs z ≤ 32767
Within e (humidity u) = (e ≡ dew_point) × (1 ≤ u) × (u ≤ 100)
