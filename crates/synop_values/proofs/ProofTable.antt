-- The lines of document 01's proof table that are about these rules, as one conjunction.
-- Assumes nothing.
use mathlib.Core.Path.{◌≡◌, refl}
use lib.IntN.{pos}
use Rattle.synop_values.specs.Value.{missing, read}
use Rattle.synop_values.specs.Tables.{char, wind_of, visibility_of, rain_of, pressure_of}
use Rattle.synop_values.specs.Digits.{two, three, four}
use Rattle.synop_values.specs.Elements.{wind_ff, visibility, rain, pressure}

pub proof_table :
    (wind_ff (char 3) (char 4) (char 5) ≡ read (pos 232))
    × (wind_ff (char 4) (char 9) (char 9) ≡ read (pos 509))
    × (visibility (char 5) (char 5) ≡ missing)
    × (visibility (char 5) (char 6) ≡ read (pos 60))
    × (visibility (char 8) (char 9) ≡ read (pos 700))
    × (rain (char 9) (char 8) (char 9) ≡ read (pos 9890))
    × (rain (char 9) (char 9) (char 0) ≡ read (pos 0))
    × (pressure (char 0) (char 1) (char 3) (char 2) ≡ read (pos 10132))
    × (pressure (char 8) (char 5) (char 0) (char 0) ≡ missing)
unfolding two three four wind_ff wind_of visibility visibility_of rain rain_of pressure pressure_of
proof_table = (refl, refl, refl, refl, refl, refl, refl, refl, refl)
