-- Document 01's proof table: "To be shown of the rules themselves, as one conjunction", each line on the definition that the contracts cite.
-- Assumes nothing.
use Rattle.std.specs.Prelude.{◌≡◌, true, List, [], ◌∷◌, ℤ, pos, neg_ℤ, Some}
use Rattle.calendar.specs.Dates.{next_day}
use Rattle.synop_values.specs.Tables.{char}
use Rattle.synop_values.specs.Elements.{wind_ff, visibility, rain, pressure}
use Rattle.synop_values.specs.Value.{missing, read}
use Rattle.quality.specs.Cell.{Cell, none, discarded, slot}
use Rattle.quality.specs.Elements.{temperature}
use Rattle.quality.specs.Limits.{Limits, limits}
use Rattle.quality.specs.Settled.{time_of, fill_of}
use Rattle.quality.specs.Steps.{range_cell}
use Rattle.vapour.specs.Vapour as vapour

-- a value as read, with no flag
abbrev pub plain : ℤ → Cell
plain v = record { state = 1; flag = 0; value = v }

-- a column that begins with three cells and has no others
abbrev pub three : Cell → Cell → Cell → List Cell
three a x b = a ∷ x ∷ b ∷ none ∷ none ∷ none ∷ none ∷ none ∷ none ∷ []

-- the limits of T at a lowland station in the warm season
abbrev pub lowland_warm : Limits
lowland_warm = limits temperature 0 true

pub record ProofTable : Type 0 where
  -- "45 knots 232, 99 knots 509": iw is 3 or 4
  pub knots_45 : wind_ff (char 3) (char 4) (char 5) ≡ read (pos 232)
  pub knots_99 : wind_ff (char 4) (char 9) (char 9) ≡ read (pos 509)
  -- "VV 55 missing, 56 gives 60, 89 gives 700"
  pub visibility_55 : visibility (char 5) (char 5) ≡ missing
  pub visibility_56 : visibility (char 5) (char 6) ≡ read (pos 60)
  pub visibility_89 : visibility (char 8) (char 9) ≡ read (pos 700)
  -- "RRR 989 gives 9890, 990 gives 0"
  pub rain_989 : rain (char 9) (char 8) (char 9) ≡ read (pos 9890)
  pub rain_990 : rain (char 9) (char 9) (char 0) ≡ read (pos 0)
  -- "PPPP 0132 gives 10132, 8500 missing"
  pub pressure_0132 : pressure (char 0) (char 1) (char 3) (char 2) ≡ read (pos 10132)
  pub pressure_8500 : pressure (char 8) (char 5) (char 0) (char 0) ≡ missing
  -- "vapour at 0 is 612, at 100 is 1229"
  pub vapour_0 : vapour.pressure (pos 0) ≡ Some 612
  pub vapour_100 : vapour.pressure (pos 100) ≡ Some 1229
  -- "fill of −5, −4 is −4": T of slot 1 between those of slots 0 and 2
  pub fill : slot (fill_of temperature (three (plain (neg_ℤ (pos 5))) none (plain (neg_ℤ (pos 4))))) 1 ≡ record { state = 3; flag = 0; value = neg_ℤ (pos 4) }
  -- "T 60, −70, 80 mends to 70, while 60, 161, 61 keeps 161"
  pub mends : slot (time_of temperature (three (plain (pos 60)) (plain (neg_ℤ (pos 70))) (plain (pos 80)))) 1 ≡ record { state = 2; flag = 3; value = pos 70 }
  pub keeps : slot (time_of temperature (three (plain (pos 60)) (plain (pos 161)) (plain (pos 61)))) 1 ≡ plain (pos 161)
  -- "lowland warm 480 suspect, 481 discarded"
  pub suspect_480 : range_cell lowland_warm (plain (pos 480)) ≡ record { state = 1; flag = 4; value = pos 480 }
  pub discarded_481 : range_cell lowland_warm (plain (pos 481)) ≡ discarded 1
  -- "after 2024-02-28 YY is 29"
  pub after_2024_02_28 : next_day 2024 2 28 ≡ 29
