-- A bulletin's text, cut at each `=`.
-- Assumes nothing.
use Rattle.std.specs.Prelude.{Bool, true, false, cond, List, [], ◌∷◌, ◌++◌, map, ℕ, eqb}
use Rattle.synop_text.specs.Groups.{groups}

-- "reports .., each ended by `=`": the characters before each `=`, and last those after the last one, of a text of which `run` has been
-- read of the piece under way
unfoldable pub pieces : List ℕ → List ℕ → List (List ℕ)
pieces run [] = run ∷ []
pieces run (b ∷ s) = cond (eqb b 61) (run ∷ pieces [] s) (pieces (run ++ b ∷ []) s)

-- the groups of each piece
abbrev pub parted : List ℕ → List (List (List ℕ))
parted s = map (λ (p : List ℕ). groups p) (pieces [] s)

-- a piece with no groups is blank
abbrev pub none : List (List ℕ) → Bool
none [] = true
none (g ∷ gs) = false
