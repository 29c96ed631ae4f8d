-- A loop over a sheet that puts, in the place of each column, what f makes of it: of the nine columns of r the first e are made, and the
-- others are still those of s.
--     begun     before the first turn
--     old       the column that a turn reads
--     more      one more column
--     whole     after the last
-- Assumes nothing.
use mathlib.Core.Path.{◌≡◌, refl, sym, ◌∙◌, ap}
use mathlib.Core.List.{List, []}
use Prim.Native.Nat.{ℕ, ◌+◌, ◌<◌, ◌≤◌}
use native.Mathlib.Nat.{le_refl}
use native.Mathlib.Omega.{arith}
use lib.ListN.{length, get_or, set}
use lib.Seq.{get_or-set_other}
use Rattle.laws.specs.Table.{table}
use Rattle.laws.proofs.Fill.{Done}
use Rattle.laws.proofs.Fill as Fill
use Rattle.quality.specs.declared.column.Column.{Column}
use Rattle.quality.specs.Cell.{Cell}
use Rattle.quality.specs.Elements.{column}
use Rattle.quality.specs.Coded.{cells, sheet}
use Rattle.quality.proofs.Sheets.{blank, sheet_set, column_sheet, length_sheet}

pub record Changed (f : ℕ → List Cell → List Cell) (s r : List Column) (e : ℕ) : Type 0 where
  pub done : Done (λ j. f j (column (sheet s) j)) [] 9 (sheet r) e
  pub rest : (j : ℕ) → e ≤ j → get_or r j blank ≡ get_or s j blank

module _ (f : ℕ → List Cell → List Cell) (s : List Column) (nine : length s ≡ 9) where
  pub begun : Changed f s s 0
  begun = record { done = Fill.none _ _ _ _ (length_sheet s ∙ nine); rest = λ j l. refl }

  module _ {r : List Column} {e : ℕ} (h : Changed f s r e) where
    -- the column that the turn reads
    pub old : e < 9 → column (sheet s) e ≡ cells (get_or r e blank)
    old l = column_sheet s e blank (rw nine l) ∙ sym (ap cells (h.rest e (le_refl _)))

    pub more : (c : Column) → e < 9 → cells c ≡ f e (cells (get_or r e blank)) → Changed f s (set r e c) (e + 1)
    more c l q =
        record {
          done = rw (sheet_set r e c) (Fill.more (cells c) h.done l (q ∙ ap (f e) (sym (old l))));
          rest = λ j m. get_or-set_other r e j c blank (λ q. omega arith) ∙ h.rest j (omega arith);
        }

    pub whole : 9 ≤ e → sheet r ≡ table 9 (λ j. f j (column (sheet s) j))
    whole l = Fill.whole h.done l
