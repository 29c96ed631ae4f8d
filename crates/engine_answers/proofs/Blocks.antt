-- A block's new checked sheet, from what was read of the block: the dd, a sheet, and whatever was made of them.
-- Assumes nothing.
use mathlib.Core.Path.{◌≡◌, ◌∙◌, ap, ap₂}
use mathlib.Core.List.{List}
use Prim.Native.Nat.{ℕ}
use Rattle.quality.specs.Cell.{Cell}
use Rattle.store_layout.specs.Model.{Block}
use Rattle.store_layout.specs.Updates.{with_checked}

pub made_as : (f : List ℕ → List (List Cell) → List (List Cell)) (b : Block) {x : Block} {dds ns : List ℕ} {s t r : List (List Cell)}
    → x ≡ with_checked r b → r ≡ f dds s → dds ≡ ns → s ≡ t → x ≡ with_checked (f ns t) b
made_as f b e h p q = e ∙ ap (λ (y : List (List Cell)). with_checked y b) (h ∙ ap₂ f p q)
