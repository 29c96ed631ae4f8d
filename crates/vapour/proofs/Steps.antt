-- The sum from the last whole entry to the index i on its way, difference by difference: it has come to the index p.
-- Assumes nothing.
use mathlib.Core.Path.{◌≡◌}
use mathlib.Core.List.{List}
use Prim.Native.Nat.{ℕ, ◌+◌, ◌-◌, ◌/◌, ◌%◌, ◌<◌, ◌≤◌}
use native.Mathlib.Omega.{arith}
use lib.IntN.{sub_ℕ}
use lib.ListN.{get_or}
use Rattle.vapour.specs.Vapour.{places, entry}
use Rattle.vapour.specs.Kept.{spacing, Kept}
use Rattle.vapour.proofs.Most.{index_most}

module _ {ws ds : List ℕ} (h : Kept ws ds) (i : ℕ) (l : i < places) where
  pub begun : get_or ws ((i - i % spacing) / spacing) 0 ≡ entry (sub_ℕ (i - i % spacing) 500)
  begun = h.each (i - i % spacing) (omega arith) (omega arith)

  module _ (p x : ℕ) (a : i - i % spacing ≤ p) (b : p < i) (e : x ≡ entry (sub_ℕ p 500)) where
    pub next : x + get_or ds (p - p / spacing) 0 ≡ entry (sub_ℕ (p + 1) 500)
    next = rw e (h.step p (omega arith) (omega arith))

    pub fits : x + get_or ds (p - p / spacing) 0 ≤ 12419
    fits = rw next (index_most (p + 1) (omega arith))
