-- A table in which the function changed at one place is the table with that entry stored.
-- Assumes nothing.
use mathlib.Core.Path.{◌≡◌, sym, ◌∙◌}
use Prim.Native.Nat.{ℕ, ◌<◌}
use native.Mathlib.Decide.{ℕ_discrete}
use lib.ListN.{get_or, set, length-set}
use lib.Seq.{get_or-set_same, get_or-set_other}
use Rattle.laws.specs.Table.{table}
use Rattle.laws.proofs.Tables.{length_table, get_d_table, is_table}

module _ {A : Type 0} where
  pub table_set : (n : ℕ) (f g : ℕ → A) (i : ℕ) → i < n → ((j : ℕ) → j < n → (j ≡ i → ⊥) → g j ≡ f j) → table n g ≡ set (table n f) i (g i)
  table_set n f g i l h =
      sym
      (is_table n g (set (table n f) i (g i)) (g i) (length-set (table n f) i (g i) ∙ length_table n f) (λ j b. at j b (ℕ_discrete j i)))
    where
      at : (j : ℕ) → j < n → Dec (j ≡ i) → get_or (set (table n f) i (g i)) j (g i) ≡ g j
      at j b (yes e) = rw e (get_or-set_same (table n f) i (g i) (g i) (rw (length_table n f) l))
      at j b (no e) = get_or-set_other (table n f) i j (g i) (g i) e ∙ get_d_table n f j (g i) b ∙ sym (h j b e)
