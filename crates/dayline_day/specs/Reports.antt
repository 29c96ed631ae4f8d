-- The reports of `dayline`'s input: "then reports, each cut after its `=`, a blank tail dropped". Assumes nothing.
use Rattle.std.specs.Prelude.{Bool, true, ◌&&◌, cond, List, [], ◌∷◌, ◌++◌, ℕ, eqb}
use Rattle.dayline_text.specs.Cuts.{is_blank}

-- the reports that are whole in the bytes s, where `run` has been read of the report under way
unfoldable pub reports : List ℕ → List ℕ → List (List ℕ)
reports run [] = []
reports run (b ∷ s) = cond (eqb b 61) ((run ++ b ∷ []) ∷ reports [] s) (reports (run ++ b ∷ []) s)

-- what is read of the report under way after them
unfoldable pub rest : List ℕ → List ℕ → List ℕ
rest run [] = run
rest run (b ∷ s) = cond (eqb b 61) (rest [] s) (rest (run ++ b ∷ []) s)

unfoldable pub all_blank : List ℕ → Bool
all_blank [] = true
all_blank (b ∷ s) = is_blank b && all_blank s

-- "a blank tail dropped"; any other is a report
abbrev pub tail : List ℕ → List (List ℕ)
tail run = cond (all_blank run) [] (run ∷ [])

-- all reports of an input behind its first line
abbrev pub input_reports : List ℕ → List (List ℕ)
input_reports s = reports [] s ++ tail (rest [] s)
