-- How large the number is that digits give.
-- Assumes nothing.
use mathlib.Core.Path.{◌≡◌, subst}
use Prim.Native.Nat.{ℕ, ◌*◌, ◌<◌}
use native.Mathlib.Omega.{arith}
use lib.Dec.{leb}
use borrow.Author.Tests.{leb-true}
use Rattle.std.specs.Prelude.{Option, None, Some}
use Rattle.laws.proofs.Bools.{by_cond}
use Rattle.synop_values.specs.Tables.{char}
use Rattle.synop_values.specs.Digits.{Below, digit, joined, two, three, four}

pub digit_below : (c : ℕ) → Below 10 (digit c)
digit_below c =
    by_cond (Below 10) (leb (char 0) c) (λ _. by_cond (Below 10) (leb c (char 9)) (λ h. omega (arith, leb-true c (char 9) h)) (λ _. tt))
    (λ _. tt)

-- one digit more makes the bound ten times as large
pub joined_below : (k : ℕ) (m d : Option ℕ) → Below k m → Below 10 d → Below (10 * k) (joined m d)
joined_below k None d h l = tt
joined_below k (Some n) None h l = tt
joined_below k (Some n) (Some x) h l = omega arith

pub two_below : (a b : ℕ) → Below 100 (two a b)
unfolding two
two_below a b = joined_below 10 (digit a) (digit b) (digit_below a) (digit_below b)

pub three_below : (a b c : ℕ) → Below 1000 (three a b c)
unfolding three
three_below a b c = joined_below 100 (two a b) (digit c) (two_below a b) (digit_below c)

pub four_below : (a b c d : ℕ) → Below 10000 (four a b c d)
unfolding four
four_below a b c d = joined_below 1000 (three a b c) (digit d) (three_below a b c) (digit_below d)

-- the bound, of the number that m is
pub of_number : (k : ℕ) {m : Option ℕ} {n : ℕ} → Below k m → m ≡ Some n → n < k
of_number k h e = subst (Below k) e h

pub digit_some : (c n : ℕ) → digit c ≡ Some n → n < 10
digit_some c n e = of_number 10 (digit_below c) e

pub two_some : (a b n : ℕ) → two a b ≡ Some n → n < 100
two_some a b n e = of_number 100 (two_below a b) e

pub three_some : (a b c n : ℕ) → three a b c ≡ Some n → n < 1000
three_some a b c n e = of_number 1000 (three_below a b c) e

pub four_some : (a b c d n : ℕ) → four a b c d ≡ Some n → n < 10000
four_some a b c d n e = of_number 10000 (four_below a b c d) e
