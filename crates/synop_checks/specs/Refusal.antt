-- The number that a report is refused with: "File tests .. 1 to 8 in order", here 1 to 5, each for the whole text before the next.
-- Assumes nothing.
use Rattle.std.specs.Prelude.{cond, List, ℕ}
use Rattle.synop_text.specs.Kinds.{tokens}
use Rattle.synop_text.specs.declared.Group.{Group}
use Rattle.synop_checks.specs.Bytes.{check1, check2}
use Rattle.synop_checks.specs.Shapes.{check3}
use Rattle.synop_checks.specs.Ranges.{check4}
use Rattle.synop_text.specs.Places.{check5}

-- the number of the first of checks 3, 4 and 5 that fails, or 0
unfoldable pub of_groups : List Group → ℕ
of_groups gs = cond (check3 gs) (cond (check4 gs) (cond (check5 gs) 0 5) 4) 3

-- the number of the first check that fails, or 0
unfoldable pub refusal : List ℕ → ℕ
refusal s = cond (check1 s) (cond (check2 s) (of_groups (tokens s)) 2) 1
