-- What the inner functions' answers say: the parts that an extreme is made of.
-- Assumes nothing.
use Rattle.std.specs.Prelude.{Bool, not, cond, ◌&&◌, ◌||◌, ℤ}
use Rattle.std.specs.Int.Signed.{lt_z}
use Rattle.quality.specs.Cell.{Cell, missing, there}
use Rattle.daily.specs.declared.extremes.Tie.{Tie}
use Rattle.daily.specs.declared.extremes.Tie.TheVariants.{Earliest, Latest}

-- x is beyond y: warmer, or else colder
abbrev pub beyond : Bool → ℤ → ℤ → Bool
beyond warmer x y = cond warmer (lt_z y x) (lt_z x y)

-- x, of a later slot than y, counts before it: x is beyond y or, where the latest counts on ties, y is not beyond x
abbrev pub outdoes : Tie → Bool → ℤ → ℤ → Bool
outdoes Earliest warmer x y = beyond warmer x y
outdoes Latest warmer x y = not (beyond warmer y x)

-- the same of cells: x is there, and y is missing or outdone
abbrev pub ahead : Tie → Bool → Cell → Cell → Bool
ahead tie warmer x y = there x && (missing y || outdoes tie warmer x.value y.value)
