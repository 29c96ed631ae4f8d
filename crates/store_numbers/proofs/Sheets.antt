-- What is read of a block's bytes, sheet by sheet; and its heads.
-- Assumes nothing.
use mathlib.Core.Path.{◌≡◌, refl, sym, ◌∙◌, ap}
use mathlib.Core.List.{List, [], map}
use Prim.Native.Nat.{ℕ, ◌<◌}
use lib.ListN.{length, set}
use lib.Seq.{set-get_or, set-set, get_or-set_same}
use Rattle.laws.specs.Table.{table}
use Rattle.laws.proofs.Maps.{map_table}
use Rattle.laws.proofs.Tables.{get_d_table, length_table}
use Rattle.quality.specs.Cell.{Cell, none, slot}
use Rattle.quality.specs.Elements.{column}
use Rattle.quality.specs.declared.head.SlotHead.{SlotHead}
use Rattle.store_layout.specs.Model.{Block}
use Rattle.store_layout.specs.Layout.{head_at, decode_head, decode_cell, decode_block}
use Rattle.store_numbers.specs.declared.area.Area.{Area}
use Rattle.store_numbers.specs.declared.area.Area.TheVariants.{Raw, Checked}
use Rattle.store_numbers.specs.Areas.{sheet_in, cell_at, with_column, with_cell}

-- the cells of element e in the bytes b of a block
abbrev pub cells_at : Area → List ℕ → ℕ → List Cell
cells_at a b e = table 9 (λ k. decode_cell b (cell_at a e k))

pub sheet_read : (a : Area) (b : List ℕ) → sheet_in a (decode_block b) ≡ table 9 (cells_at a b)
unfolding decode_block
sheet_read Raw b = refl
sheet_read Checked b = refl

pub column_read : (a : Area) (b : List ℕ) (e : ℕ) → e < 9 → column (sheet_in a (decode_block b)) e ≡ cells_at a b e
column_read a b e l = ap (λ (s : List (List Cell)). column s e) (sheet_read a b) ∙ get_d_table 9 (cells_at a b) e [] l

pub cell_read : (a : Area) (b : List ℕ) (e k : ℕ) → e < 9 → k < 9 → slot (column (sheet_in a (decode_block b)) e) k ≡ decode_cell b (cell_at a e k)
cell_read a b e k l m = ap (λ (xs : List Cell). slot xs k) (column_read a b e l) ∙ get_d_table 9 (λ j. decode_cell b (cell_at a e j)) k none m

pub nine_columns : (a : Area) (b : List ℕ) → length (sheet_in a (decode_block b)) ≡ 9
nine_columns a b = ap length (sheet_read a b) ∙ length_table 9 (cells_at a b)

pub nine_cells : (a : Area) (b : List ℕ) (e : ℕ) → e < 9 → length (column (sheet_in a (decode_block b)) e) ≡ 9
nine_cells a b e l = ap length (column_read a b e l) ∙ length_table 9 (λ k. decode_cell b (cell_at a e k))

-- ---- a column put in a block
put_again : (s : List (List Cell)) (e k : ℕ) (xs : List Cell) (c : Cell) → e < length s → set (set s e xs) e (set (column (set s e xs) e) k c) ≡ set s e (set xs k c)
put_again s e k xs c l = set-set s e xs _ ∙ ap (λ (ys : List Cell). set s e (set ys k c)) (get_or-set_same s e xs [] l)

-- the one that is there
pub column_own : (a : Area) (e : ℕ) (b : Block) → b ≡ with_column a e (column (sheet_in a b) e) b
column_own Raw e b = λ d. record { heads = b.heads; raw = sym (set-get_or b.raw e []) d; checked = b.checked }
column_own Checked e b = λ d. record { heads = b.heads; raw = b.raw; checked = sym (set-get_or b.checked e []) d }

-- with one more cell put
pub column_cell : (a : Area) (e k : ℕ) (xs : List Cell) (c : Cell) (b : Block) → e < length (sheet_in a b)
    → with_cell a e k c (with_column a e xs b) ≡ with_column a e (set xs k c) b
column_cell Raw e k xs c b l =
    λ d. record { heads = b.heads; raw = put_again b.raw e k xs c l d; checked = b.checked }
column_cell Checked e k xs c b l =
    λ d. record { heads = b.heads; raw = b.raw; checked = put_again b.checked e k xs c l d }

-- ---- a field of each slot head
pub each_head : (f : SlotHead → ℕ) (b : List ℕ) → table 9 (λ k. f (decode_head b (head_at k))) ≡ map f (decode_block b).heads
unfolding decode_block
each_head f b = sym (map_table f 9 (λ k. decode_head b (head_at k)))
