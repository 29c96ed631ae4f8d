-- The characters of a report, by their codes.
-- Assumes nothing.
use Rattle.std.specs.Prelude.{Bool, ◌&&◌, ◌||◌, ℕ, leb, eqb}
use Rattle.synop_text.specs.declared.Characters.{Characters}

-- "Groups are parted by spaces, CR or LF"; the closing `=` belongs to no group either
abbrev pub parts : ℕ → Bool
parts b = ((eqb b 32 || eqb b 13) || eqb b 10) || eqb b 61

-- 0 to 9
abbrev pub is_digit : ℕ → Bool
is_digit b = leb 48 b && leb b 57

-- "digits or `/`"
abbrev pub is_figure : ℕ → Bool
is_figure b = eqb b 47 || is_digit b

unfoldable pub are_figures : Characters → Bool
are_figures x = (((is_figure x.a && is_figure x.b) && is_figure x.c) && is_figure x.d) && is_figure x.e
