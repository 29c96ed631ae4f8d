-- Checks 1 and 2, of a text's bytes.
-- Assumes nothing.
use Rattle.std.specs.Prelude.{Bool, true, false, cond, ◌&&◌, ◌||◌, List, [], ◌∷◌, ℕ, leb, ltb, eqb, length}

-- "the last, and only the last, is `=`": the first `=` ends the text
unfoldable pub ended : List ℕ → Bool
ended [] = false
ended (b ∷ s) = cond (eqb b 61) (eqb (length s) 0) (ended s)

-- check 1: "length 0 or above 512; `=` absent, early or not last". A text of length 0 has no `=`.
unfoldable pub check1 : List ℕ → Bool
check1 s = cond (ltb 512 (length s)) false (ended s)

-- "0-9, A-Z, `/`, space, CR, LF, `=`"
unfoldable pub is_known : ℕ → Bool
is_known b = ((((leb 48 b && leb b 57) || (leb 65 b && leb b 90)) || ((eqb b 32 || eqb b 13) || eqb b 10)) || eqb b 47) || eqb b 61

-- check 2: "byte other than" these
unfoldable pub check2 : List ℕ → Bool
check2 [] = true
check2 (b ∷ s) = is_known b && check2 s

-- the number of the first of the two that fails, or 0
unfoldable pub of_bytes : List ℕ → ℕ
of_bytes s = cond (check1 s) (cond (check2 s) 0 2) 1
