-- What is printed of the paper's example, through the definitions.
-- Assumes nothing.
use mathlib.Core.Path.{◌≡◌, refl}
use mathlib.Core.List.{[], ◌∷◌}
use Rattle.std.specs.Prelude.{None, Some}
use Rattle.dayline_text.specs.Printed.{station_text, refused_text}
use Rattle.texts.specs.Numbers.{digits}

-- `40001 - 0 0 7 0 0 74` and the end of the line
line_example : station_text 40001 None (Some 0) (Some 0) 7 0 0 74 ≡ 52 ∷ 48 ∷ 48 ∷ 48 ∷ 49 ∷ 32 ∷ 45 ∷ 32 ∷ 48 ∷ 32 ∷ 48 ∷ 32 ∷ 55 ∷ 32 ∷ 48 ∷ 32 ∷ 48 ∷ 32 ∷ 55 ∷ 52 ∷ 10 ∷ []
unfolding station_text digits
line_example = refl

-- `refused 0` and the end of the line
refused_example : refused_text 0 ≡ 114 ∷ 101 ∷ 102 ∷ 117 ∷ 115 ∷ 101 ∷ 100 ∷ 32 ∷ 48 ∷ 10 ∷ []
unfolding refused_text digits
refused_example = refl
