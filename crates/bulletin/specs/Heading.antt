-- The heading: "`AAXX YYGGiw`", refused "3 or 4 for the heading".
-- Assumes nothing.
use Rattle.std.specs.Prelude.{◌≡◌, cond, List, [], ◌∷◌, ℕ, ◌≤◌, length, drop, Result, Ok, Err}
use Rattle.refusals.specs.declared.Refusal.{Refusal}
use Rattle.refusals.specs.declared.Refusal.TheVariants.{Shape, OutOfRange}
use Rattle.synop_text.specs.Groups.{groups}
use Rattle.synop_text.specs.declared.Characters.{Characters}
use Rattle.synop_text.specs.declared.Group.{Group}
use Rattle.synop_text.specs.Kinds.{kind_of, on_five}
use Rattle.synop_checks.specs.Shapes.{is_aaxx, are_digits}
use Rattle.synop_checks.specs.Ranges.{is_time}
use Rattle.bulletin.specs.declared.text.Start.{Start}

-- YYGGiw: five digits, 3 otherwise; in range, 4 otherwise
unfoldable pub time_of : Characters → Result Characters Refusal
time_of x = cond (are_digits x) (cond (is_time x) (Ok x) (Err OutOfRange)) (Err Shape)

-- the first two groups
unfoldable pub heading_of : Group → Group → Result Characters Refusal
heading_of g h = cond (is_aaxx g) (on_five (Err Shape) time_of h) (Err Shape)

-- the heading that a piece with these groups begins with; "3 also where `=` or the end cuts it before its second group is whole"
abbrev pub heading_in : List (List ℕ) → Result Characters Refusal
heading_in [] = Err Shape
heading_in (g ∷ []) = Err Shape
heading_in (g ∷ h ∷ gs) = heading_of (kind_of g) (kind_of h)

-- the piece p begins with the heading of s, and the groups behind its first two stand from s.at on
pub record Began (p : List ℕ) (s : Start) : Type 0 where
  pub upto : s.at ≤ length p
  pub same : heading_in (groups p) ≡ Ok s.time
  pub rest : groups (drop s.at p) ≡ drop 2 (groups p)

-- so it does, or its heading is refused
abbrev pub Begins : List ℕ → Result Start Refusal → Type 0
Begins p (Ok s) = Began p s
Begins p (Err r) = heading_in (groups p) ≡ Err r
