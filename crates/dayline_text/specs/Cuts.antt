-- The places where `dayline`'s input is cut, and blanks. Assumes nothing.
use Rattle.std.specs.Prelude.{ℕ, zero, suc, Bool, ◌||◌, cond, List, [], ◌∷◌, eqb}

-- a space, CR or LF
abbrev pub is_blank : ℕ → Bool
is_blank b = (eqb b 32 || eqb b 13) || eqb b 10

-- where b stands first in a text, or the text's length
unfoldable pub index : ℕ → List ℕ → ℕ
index b [] = zero
index b (x ∷ s) = cond (eqb x b) zero (suc (index b s))
