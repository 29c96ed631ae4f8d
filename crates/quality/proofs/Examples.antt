-- The proof table's lines on settling (document 01, "Proof table and a printed day"), by computation on the rules.
-- Assumes nothing.
use mathlib.Core.Path.{◌≡◌, refl}
use mathlib.Core.Bool.{true}
use lib.IntN.{ℤ, pos, neg_ℤ}
use Rattle.quality.specs.Cell.{Cell, none, discarded, flagged}
use Rattle.quality.specs.Elements.{temperature}
use Rattle.quality.specs.Limits.{limits}
use Rattle.quality.specs.Steps.{range_cell, spike_cell, time_cell, fill_cell}

-- a cell as a report leaves it
abbrev pub reading : ℤ → Cell
reading z = record { state = 1; flag = 0; value = z }

-- "fill of −5, −4 is −4"
pub fill_of_5_4 : fill_cell (reading (neg_ℤ (pos 5))) none (reading (neg_ℤ (pos 4))) ≡ record { state = 3; flag = 0; value = neg_ℤ (pos 4) }
unfolding fill_cell
fill_of_5_4 = refl

-- "T 60, −70, 80 mends to 70"
pub mends_to_70 : time_cell true (reading (pos 60)) (reading (neg_ℤ (pos 70))) (reading (pos 80)) ≡ record { state = 2; flag = 3; value = pos 70 }
unfolding time_cell spike_cell
mends_to_70 = refl

-- "while 60, 161, 61 keeps 161"
pub keeps_161 : time_cell true (reading (pos 60)) (reading (pos 161)) (reading (pos 61)) ≡ reading (pos 161)
unfolding time_cell
keeps_161 = refl

-- "lowland warm 480 suspect, 481 discarded"
pub suspect_480 : range_cell (limits temperature 0 true) (reading (pos 480)) ≡ flagged 4 (reading (pos 480))
unfolding range_cell
suspect_480 = refl

pub discarded_481 : range_cell (limits temperature 0 true) (reading (pos 481)) ≡ discarded 1
unfolding range_cell
discarded_481 = refl
