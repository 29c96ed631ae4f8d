-- Numbers in decimal. Assumes nothing.
use Rattle.std.specs.Prelude.{ℕ, zero, suc, ◌+◌, ◌/◌, ◌%◌, cond, List, [], ◌∷◌, ◌++◌, ltb, ℤ, pos, negsuc}

-- the last decimal digit of n as a character
abbrev pub last_digit : ℕ → ℕ
last_digit n = 48 + n % 10

-- "number (five digits)"
abbrev pub five_digits : ℕ → List ℕ
five_digits n = last_digit (n / 10000) ∷ last_digit (n / 1000) ∷ last_digit (n / 100) ∷ last_digit (n / 10) ∷ last_digit n ∷ []

-- n in decimal, a number of at most k + 1 digits
unfoldable pub digits : ℕ → ℕ → List ℕ
digits zero n = last_digit n ∷ []
digits (suc k) n = cond (ltb n 10) (last_digit n ∷ []) (digits k (n / 10) ++ last_digit n ∷ [])

-- a number of 64 bits has at most 20
abbrev pub decimal : ℕ → List ℕ
decimal n = digits 19 n

abbrev pub signed : ℤ → List ℕ
signed (pos n) = decimal n
signed (negsuc n) = 45 ∷ decimal (suc n)

-- what stands behind a space
abbrev pub field : List ℕ → List ℕ
field x = 32 ∷ x
