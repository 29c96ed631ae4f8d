-- The groups of a piece, put behind a text one after the other.
-- Assumes nothing.
use mathlib.Core.Path.{◌≡◌}
use mathlib.Core.List.{List, [], ◌∷◌}
use Prim.Native.Nat.{ℕ}
use lib.ListN.{drop}
use Rattle.synop_text.specs.Groups.{groups}
use Rattle.synop_text.specs.Walk.{part, Bounds}
use Rattle.texts.specs.Written.{Adds}
use Rattle.texts.proofs.Writing.{adds_none, adds_two}
use Rattle.bulletin.specs.Rebuilt.{spaced}

-- no group is put yet
pub first_put : {room at : ℕ} {old : List ℕ} (s : List ℕ) → at ≡ 0 → (new : List ℕ) → Adds room old new (spaced (groups (drop at s))) → Adds room old new (spaced (groups s))
first_put s e new f = rw e at f

-- a group, and those behind it
pub group_put : {room at start end : ℕ} {s old mid held new : List ℕ} → Bounds s at start end
    → Adds room old mid (32 ∷ []) → Adds room mid held (part s start end) → Adds room held new (spaced (groups (drop end s))) → Adds room old new (spaced (groups (drop at s)))
unfolding spaced
group_put b f g h = rw b.first (adds_two f (adds_two g h))

-- no group is left
pub none_put : (room : ℕ) (held : List ℕ) {gs : List (List ℕ)} → gs ≡ [] → Adds room held held (spaced gs)
unfolding spaced
none_put room held e = rw e (adds_none room held)
