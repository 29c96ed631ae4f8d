-- The first line of `dayline`'s input: "a line of year, month, day, then station and row pairs". Assumes nothing.
use Rattle.std.specs.Prelude.{ℕ, ◌+◌, ◌*◌, ◌-◌, ◌/◌, ◌%◌, min, Bool, true, ◌&&◌, ◌||◌, cond, List, [], ◌∷◌, eqb, leb, length, get_or, Option, None, Some, unwrap_or}
use Rattle.laws.specs.Table.{table}
use Rattle.synop_text.specs.Characters.{is_digit}
use Rattle.dayline_text.specs.Cuts.{is_blank}

-- digits and blanks alone
unfoldable pub is_plain : List ℕ → Bool
is_plain [] = true
is_plain (b ∷ s) = (is_digit b || is_blank b) && is_plain s

-- n with one more decimal digit behind it. A number beyond nine digits, which no date, station or row has, counts as the largest of nine.
abbrev pub grown : ℕ → ℕ → ℕ
grown n digit = min (10 * n + (digit - 48)) 999999999

-- the end of a number, where one is under way
abbrev pub closed : Option ℕ → List ℕ → List ℕ
closed None rest = rest
closed (Some n) rest = n ∷ rest

-- the numbers of a text, its runs of digits, where a number is under way or none
unfoldable pub numbers_from : Option ℕ → List ℕ → List ℕ
numbers_from number [] = closed number []
numbers_from number (b ∷ s) = cond (is_digit b) (numbers_from (Some (grown (unwrap_or number 0) b)) s) (closed number (numbers_from None s))

abbrev pub numbers : List ℕ → List ℕ
numbers s = numbers_from None s

-- what a line opens: year, month, day, the stations and their rows
pub data First : Type 0 where
  cannot_open : First
  opens : ℕ → ℕ → ℕ → List ℕ → List ℕ → First

-- three numbers and 1 to 32 pairs
abbrev pub is_whole : ℕ → Bool
is_whole n = (leb 5 n && leb n 67) && eqb (n % 2) 1

abbrev pub pairs : ℕ → ℕ
pairs n = (n - 3) / 2

-- a station's number stands before its row. A row is kept in 16 bits; one too large for them counts as the largest.
abbrev pub station : List ℕ → ℕ → ℕ
station ns k = get_or ns (2 * k + 3) 0

abbrev pub row : List ℕ → ℕ → ℕ
row ns k = min (get_or ns (2 * k + 4) 0) 65535

abbrev pub opened : List ℕ → First
opened ns = opens (get_or ns 0 0) (get_or ns 1 0) (get_or ns 2 0) (table (pairs (length ns)) (station ns)) (table (pairs (length ns)) (row ns))

-- what these numbers open, in a line of digits and blanks alone or not
unfoldable pub first : Bool → List ℕ → First
first plain ns = cond (plain && is_whole (length ns)) (opened ns) cannot_open

-- "A first line that cannot open a store prints `open 10` alone."
abbrev pub first_line : List ℕ → First
first_line s = first (is_plain s) (numbers s)
