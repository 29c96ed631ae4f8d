-- A report of a bulletin as it is filed: "with that heading, one space between groups and none before `=`".
-- Assumes nothing.
use Rattle.std.specs.Prelude.{List, [], ◌∷◌, ◌++◌, ℕ}
use Rattle.synop_text.specs.declared.Characters.{Characters}

-- each group after a space
unfoldable pub spaced : List (List ℕ) → List ℕ
spaced [] = []
spaced (g ∷ gs) = 32 ∷ g ++ spaced gs

-- `AAXX YYGGiw`
abbrev pub heading : Characters → List ℕ
heading x = 65 ∷ 65 ∷ 88 ∷ 88 ∷ 32 ∷ x.a ∷ x.b ∷ x.c ∷ x.d ∷ x.e ∷ []

-- the heading, the report's groups and `=`
abbrev pub rebuilt : List ℕ → List (List ℕ) → List ℕ
rebuilt head gs = (head ++ spaced gs) ++ 61 ∷ []
