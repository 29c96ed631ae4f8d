-- What the inner functions' answers say: the parts that a mean is made of.
-- Assumes nothing.
use Rattle.std.specs.Prelude.{Bool, not, List}
use Rattle.laws.specs.All.{all}
use Rattle.quality.specs.Cell.{Cell, slot}
use Rattle.quality.specs.Steps.{passed_over}
use Rattle.daily.specs.Means.{repaired}

-- no slot of 0 to 7 is missing or has a humidity
abbrev pub complete : List Cell → Bool
complete xs = all (λ k. not (passed_over (slot xs k))) 8

-- none is corrected or filled
abbrev pub plain : List Cell → Bool
plain xs = all (λ k. not (repaired (slot xs k))) 8
