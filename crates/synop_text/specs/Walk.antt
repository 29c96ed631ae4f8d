-- What the cursor's answers say of the groups: "A cursor walks the groups, one step a group".
-- Assumes nothing.
use Rattle.std.specs.Prelude.{◌≡◌, List, [], ◌∷◌, ℕ, ◌-◌, ◌<◌, ◌≤◌, length, take, drop, Option, None, Some}
use Rattle.synop_text.specs.Groups.{groups}
use Rattle.synop_text.specs.Kinds.{tokens}
use Rattle.synop_text.specs.declared.Group.{Group}
use Rattle.synop_text.specs.declared.Span.{Span}
use Rattle.synop_text.specs.declared.Cursor.{Cursor}

-- the characters from `start` up to `end`
abbrev pub part : List ℕ → ℕ → ℕ → List ℕ
part s start end = take (end - start) (drop start s)

-- the first group from `at` on stands from `start` to `end`, and the other groups are those from `end` on
pub record Bounds (s : List ℕ) (at start end : ℕ) : Type 0 where
  pub ordered : start ≤ end
  pub upto : end ≤ length s
  pub onward : at < end
  pub first : groups (drop at s) ≡ part s start end ∷ groups (drop end s)

abbrev pub Stepped : List ℕ → ℕ → Option Span → Type 0
Stepped s at (Some span) = Bounds s at span.start span.end
Stepped s at None = groups (drop at s) ≡ []

-- the first group from `at` on is of the kind g, and the other groups are those from `next` on
pub record Kind (s : List ℕ) (at : ℕ) (g : Group) (next : ℕ) : Type 0 where
  pub onward : at < next
  pub within : next ≤ length s
  pub first : tokens (drop at s) ≡ g ∷ tokens (drop next s)

abbrev pub Taken : List ℕ → ℕ → Option (Group × Cursor) → Type 0
Taken s at (Some t) = Kind s at t.0 t.1.at
Taken s at None = tokens (drop at s) ≡ []
