-- The first line of the paper's example through the definitions.
-- Assumes nothing.
use mathlib.Core.Path.{◌≡◌, refl}
use mathlib.Core.List.{[], ◌∷◌}
use Rattle.laws.specs.Table.{table}
use Rattle.dayline_text.specs.FirstLine.{cannot_open, opens, first, first_line, is_plain, numbers_from}

-- `2024 4 11 40001 0`
opens_example : first_line (50 ∷ 48 ∷ 50 ∷ 52 ∷ 32 ∷ 52 ∷ 32 ∷ 49 ∷ 49 ∷ 32 ∷ 52 ∷ 48 ∷ 48 ∷ 48 ∷ 49 ∷ 32 ∷ 48 ∷ []) ≡ opens 2024 4 11 (40001 ∷ []) (0 ∷ [])
unfolding is_plain numbers_from first table
opens_example = refl

-- `2024 4 11 40001`: a station without its row
odd_example : first_line (50 ∷ 48 ∷ 50 ∷ 52 ∷ 32 ∷ 52 ∷ 32 ∷ 49 ∷ 49 ∷ 32 ∷ 52 ∷ 48 ∷ 48 ∷ 48 ∷ 49 ∷ []) ≡ cannot_open
unfolding is_plain numbers_from first table
odd_example = refl
