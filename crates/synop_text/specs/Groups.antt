-- The groups of a text: the runs of characters that blanks part.
-- Assumes nothing.
use Rattle.std.specs.Prelude.{cond, List, [], ◌∷◌, ◌++◌, ℕ}
use Rattle.synop_text.specs.Characters.{parts}

-- a run of characters is a group unless it is empty
abbrev pub closed : List ℕ → List (List ℕ) → List (List ℕ)
closed [] rest = rest
closed (a ∷ run) rest = (a ∷ run) ∷ rest

-- the groups of a text of which `run` has been read of the group under way
unfoldable pub cut : List ℕ → List ℕ → List (List ℕ)
cut run [] = closed run []
cut run (b ∷ s) = cond (parts b) (closed run (cut [] s)) (cut (run ++ b ∷ []) s)

abbrev pub groups : List ℕ → List (List ℕ)
groups s = cut [] s
