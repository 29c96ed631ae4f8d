-- The number that digits give is below a power of ten; 0 is where one of them is no digit.
-- Assumes nothing.
use Prim.Native.Nat.{ℕ, ◌<◌}
use lib.Dec.{lit<}
use Rattle.std.specs.Prelude.{Option, Some, None}
use Rattle.synop_values.specs.Digits.{Below, digit, two, four}
use Rattle.synop_values.proofs.Numbers.{digit_below, two_below, four_below}
use Rattle.synop.specs.Contents.{number_of}

number_below : (k : ℕ) (n : Option ℕ) → 0 < k → Below k n → number_of n < k
number_below k None p h = p
number_below k (Some n) p h = h

pub digit_number : (c : ℕ) → number_of (digit c) < 10
digit_number c = number_below 10 (digit c) (lit< tt) (digit_below c)

pub two_number : (a b : ℕ) → number_of (two a b) < 100
two_number a b = number_below 100 (two a b) (lit< tt) (two_below a b)

pub four_number : (a b c d : ℕ) → number_of (four a b c d) < 10000
four_number a b c d = number_below 10000 (four a b c d) (lit< tt) (four_below a b c d)
