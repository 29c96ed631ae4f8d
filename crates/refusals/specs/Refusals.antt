-- The numbers of the refusals: "When an answer is an enum, a definition gives this paper's number and values for each of its cases, and
-- the promises use that definition."
-- Assumes nothing.
use Rattle.std.specs.Prelude.{ℕ, Result, Ok, Err}
use Rattle.refusals.specs.declared.Refusal.{Refusal}
use Rattle.refusals.specs.declared.Refusal.TheVariants as why

abbrev pub number : Refusal → ℕ
number why.Unended = 1
number why.UnknownByte = 2
number why.Shape = 3
number why.OutOfRange = 4
number why.Order = 5
number why.UnknownStation = 6
number why.NoSlot = 7
number why.Filed = 8
number why.Unsound = 9
number why.Unopenable = 10
number why.NotSettled = 11
number why.NoCell = 12
number why.Rank = 13
number why.NotUnderWay = 14

-- the number of what refused it, or 0
abbrev pub number_or_zero : {T : Type 0} → Result T Refusal → ℕ
number_or_zero (Ok x) = 0
number_or_zero (Err e) = number e
