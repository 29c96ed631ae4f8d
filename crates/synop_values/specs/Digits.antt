-- Characters as digits, and the numbers that two, three or four of them give.
-- Assumes nothing.
use Rattle.std.specs.Prelude.{cond, ℕ, ◌+◌, ◌-◌, ◌*◌, ◌<◌, leb, Option, None, Some}
use Rattle.synop_values.specs.Tables.{char}

-- the number of a character 0 to 9; `/`, and any other character, is no digit
abbrev pub digit : ℕ → Option ℕ
digit c = cond (leb (char 0) c) (cond (leb c (char 9)) (Some (c - char 0)) None) None

-- a number with one more digit after it
abbrev pub joined : Option ℕ → Option ℕ → Option ℕ
joined None d = None
joined (Some n) None = None
joined (Some n) (Some d) = Some (10 * n + d)

-- the numbers of two, three and four digits, as VV, RRR and PPPP
unfoldable pub two : ℕ → ℕ → Option ℕ
two a b = joined (digit a) (digit b)

unfoldable pub three : ℕ → ℕ → ℕ → Option ℕ
three a b c = joined (two a b) (digit c)

unfoldable pub four : ℕ → ℕ → ℕ → ℕ → Option ℕ
four a b c d = joined (three a b c) (digit d)

-- the number, where there is one, is below k
abbrev pub Below : ℕ → Option ℕ → Type 0
Below k None = Unit {0}
Below k (Some n) = n < k

-- f of what there is, or d where there is nothing, as where a `/` stands among a number's digits
module _ {A B : Type 0} where
  abbrev pub given : Option A → B → (A → B) → B
  given None d f = d
  given (Some x) d f = f x
