-- Writing a block: one head or one cell. Every other head and cell stays.
--     head_written, cell_written      what is read of a block after some bytes were stored
--     cell_bytes                      a cell's bytes, read again
--     cell_put, head_put, copy_put    what is read after a cell's or a head's bytes, or a head's copy of dd, were stored
-- Assumes nothing.
use mathlib.Core.Path.{◌≡◌, refl, sym, ◌∙◌, ap}
use mathlib.Core.List.{List, [], ◌∷◌}
use mathlib.Core.Logic.{◌⊎◌, inl, inr, ⊎_elim}
use Prim.Native.Nat.{ℕ, ◌+◌, ◌*◌, ◌-◌, ◌<◌, ◌≤◌}
use native.Mathlib.Omega.{arith}
use lib.IntN.{ℤ, pos, negsuc}
use lib.ListN.{length, take, drop, set}
use mir.Syntax.{w16}
use mir.Val.{SFits}
use lib.Seq.{sets, get_or-set_same, get_or-set_other}
use Rattle.laws.specs.Table.{table}
use Rattle.laws.proofs.Offset.{side}
use Rattle.laws.proofs.Tables.{get_d_table, table_ext}
use Rattle.quality.specs.Cell.{Cell}
use Rattle.quality.specs.Elements.{column}
use Rattle.quality.specs.declared.head.SlotHead.{SlotHead}
use Rattle.store_layout.specs.Layout.{byte, head_length, ir_in, tr_in, dd_in, rank_in, copy_in, signed, unsigned, cell_length, sheet_length, block_length, raw_from, checked_from, cell_index, head_at, decode_head, encode_head, decode_cell, encode_cell, decode_block}
use Rattle.store_layout.specs.Updates.{with_copy}
use Rattle.store_layout.proofs.Numbers.{word_of_bytes, signed_low, signed_high}
use Rattle.store_layout.proofs.Parts.{Same, same_is}
use Rattle.store_layout.proofs.Read.{head_same, cell_same}
use Rattle.store_layout.proofs.Writes.{part_inside, same_outside}
use Rattle.store_layout.proofs.Blocks.{sheet_from}
use Rattle.store_layout.proofs.TableSet.{table_set}
use Rattle.store_numbers.specs.declared.area.Area.{Area}
use Rattle.store_numbers.specs.declared.area.Area.TheVariants.{Raw, Checked}
use Rattle.store_numbers.specs.Areas.{cell_at, with_cell, with_head}

-- ---- w bytes stored at a position
module _ (s vs : List ℕ) (at w : ℕ) (wide : length vs ≡ w) where
  -- what is there
  there : at + w ≤ length s → take w (drop at (sets s at vs)) ≡ vs
  there h = rw wide at (part_inside vs s at (omega arith))

  -- n bytes that lie before or behind
  apart : (n p : ℕ) → (p + n ≤ at) ⊎ (at + w ≤ p) → Same n (sets s at vs) p s p
  apart n p h = same_outside n p at vs s (λ i l a b. ⊎_elim (λ c. omega arith) (λ c. omega arith) h)

  -- so the heads, and a sheet
  heads_apart : raw_from ≤ at → table 9 (λ k. decode_head (sets s at vs) (head_at k)) ≡ table 9 (λ k. decode_head s (head_at k))
  heads_apart l = table_ext 9 _ _ (λ k m. head_same (apart head_length (head_at k) (inl (omega arith))))

  sheet_apart : (from : ℕ) → (from + sheet_length ≤ at) ⊎ (at + w ≤ from) → sheet_from (sets s at vs) from ≡ sheet_from s from
  sheet_apart from h =
      table_ext 9 _ _
      (λ e l.
      table_ext 9 _ _
      (λ k m. cell_same (apart cell_length (from + cell_length * cell_index e k) (⊎_elim (λ b. inl (omega arith)) (λ b. inr (omega arith)) h))))

-- ---- one cell of a sheet stored
module _ (s vs : List ℕ) (from e k : ℕ) (wide : length vs ≡ cell_length) (fits : from + sheet_length ≤ length s) (l : e < 9) (m : k < 9) where
  -- its place, and that of another cell
  abbrev at : ℕ → ℕ → ℕ
  at x j = from + cell_length * cell_index x j

  cells_apart : (x j : ℕ) → (cell_index x j ≡ cell_index e k → ⊥) → (at x j + cell_length ≤ at e k) ⊎ (at e k + cell_length ≤ at x j)
  cells_apart x j n = ⊎_elim (λ b. inl (omega arith)) (λ b. inr (omega (arith, n))) (side (cell_index x j) (cell_index e k))

  cell_kept : (x j : ℕ) → (cell_index x j ≡ cell_index e k → ⊥) → decode_cell (sets s (at e k) vs) (at x j) ≡ decode_cell s (at x j)
  cell_kept x j n = cell_same (apart s vs (at e k) cell_length wide cell_length (at x j) (cells_apart x j n))

  -- the column of e has the new cell at k
  column_written : table 9 (λ j. decode_cell (sets s (at e k) vs) (at e j)) ≡ set (table 9 (λ j. decode_cell s (at e j))) k (decode_cell vs 0)
  column_written =
      table_set 9 (λ j. decode_cell s (at e j)) (λ j. decode_cell (sets s (at e k) vs) (at e j)) k m (λ j b n. cell_kept e j (λ q. n (omega arith)))
      ∙ ap (set (table 9 (λ j. decode_cell s (at e j))) k) (cell_same (same_is (there s vs (at e k) cell_length wide (omega arith))))

  -- and the other columns stay
  sheet_written : sheet_from (sets s (at e k) vs) from ≡ set (sheet_from s from) e (set (column (sheet_from s from) e) k (decode_cell vs 0))
  sheet_written =
      table_set 9 (λ x. table 9 (λ j. decode_cell s (at x j))) (λ x. table 9 (λ j. decode_cell (sets s (at e k) vs) (at x j))) e l
      (λ x b n. table_ext 9 _ _ (λ j c. cell_kept x j (λ q. n (omega arith))))
      ∙ ap (set (sheet_from s from) e)
      (column_written
      ∙ ap (λ (xs : List Cell). set xs k (decode_cell vs 0)) (sym (get_d_table 9 (λ x. table 9 (λ j. decode_cell s (at x j))) e [] l)))

-- ---- in a block
-- what is stored within head k changes that head alone
head_changed : (s vs : List ℕ) (at w : ℕ) → length vs ≡ w → (k : ℕ) → k < 9 → head_at k ≤ at → at + w ≤ head_at k + head_length
    → decode_block (sets s at vs) ≡ with_head k (decode_head (sets s at vs) (head_at k)) (decode_block s)
unfolding decode_block
head_changed s vs at w wide k m least most =
    λ d.
    record {
      heads =
          table_set 9 (λ j. decode_head s (head_at j)) (λ j. decode_head (sets s at vs) (head_at j)) k m
          (λ j b n. head_same (apart s vs at w wide head_length (head_at j) (⊎_elim (λ c. inl (omega arith)) (λ c. inr (omega (arith, n))) (side j k))))
          d;
      raw = sheet_apart s vs at w wide raw_from (inr (omega arith)) d;
      checked = sheet_apart s vs at w wide checked_from (inr (omega arith)) d;
    }

module _ (s vs : List ℕ) (long : length s ≡ block_length) where
  pub head_written : length vs ≡ head_length → (k : ℕ) → k < 9 → decode_block (sets s (head_at k) vs) ≡ with_head k (decode_head vs 0) (decode_block s)
  head_written wide k m =
      head_changed s vs (head_at k) head_length wide k m (omega arith) (omega arith)
      ∙ ap (λ (h : SlotHead). with_head k h (decode_block s)) (head_same (same_is (there s vs (head_at k) head_length wide (omega arith))))

  pub cell_written : length vs ≡ cell_length → (a : Area) (e k : ℕ) → e < 9 → k < 9
      → decode_block (sets s (cell_at a e k) vs) ≡ with_cell a e k (decode_cell vs 0) (decode_block s)
  unfolding decode_block
  cell_written wide Raw e k l m =
      λ d.
      record {
        heads = heads_apart s vs (cell_at Raw e k) cell_length wide (omega arith) d;
        raw = sheet_written s vs raw_from e k wide (omega arith) l m d;
        checked = sheet_apart s vs (cell_at Raw e k) cell_length wide checked_from (inr (omega arith)) d;
      }
  cell_written wide Checked e k l m =
      λ d.
      record {
        heads = heads_apart s vs (cell_at Checked e k) cell_length wide (omega arith) d;
        raw = sheet_apart s vs (cell_at Checked e k) cell_length wide raw_from (inl (omega arith)) d;
        checked = sheet_written s vs checked_from e k wide (omega arith) l m d;
      }

-- ---- a cell's bytes, read again: of any value of 16 bits
back_signed : (z : ℤ) → SFits w16 z → signed (unsigned z) ≡ z
back_signed (pos n) h = signed_low n (omega (arith, h.sfits))
back_signed (negsuc n) h = signed_high (65535 - n) (omega (arith, h.sfits)) ∙ ap negsuc (omega (arith, h.sfits))

pub cell_bytes : (d : Cell) → SFits w16 d.value → decode_cell (encode_cell d) 0 ≡ d
unfolding decode_cell encode_cell
cell_bytes d h = rw (word_of_bytes (unsigned d.value), back_signed d.value h)

-- a cell's bytes stored where it lies
pub cell_put : (s s' : List ℕ) → length s ≡ block_length → (a : Area) (e k : ℕ) → e < 9 → k < 9 → (d : Cell) (at : ℕ) → SFits w16 d.value
    → at ≡ cell_at a e k → s' ≡ sets s at (encode_cell d) → decode_block s' ≡ with_cell a e k d (decode_block s)
unfolding encode_cell
cell_put s s' long a e k l m d at h p w =
    rw (w, p)
    (cell_written s (encode_cell d) long refl a e k l m
    ∙ ap (λ (c : Cell). with_cell a e k c (decode_block s)) (cell_bytes d h))

-- a head's bytes stored where it lies
pub head_put : (s s' : List ℕ) → length s ≡ block_length → (k : ℕ) → k < 9 → (h : SlotHead) → s' ≡ sets s (head_at k) (encode_head h)
    → decode_block s' ≡ with_head k h (decode_block s)
unfolding decode_head encode_head
head_put s s' long k m h w = ap decode_block w ∙ head_written s (encode_head h) long refl k m

-- a copy of dd stored in head k
pub copy_put : (s : List ℕ) → length s ≡ block_length → (k : ℕ) → k < 9 → (f : SlotHead → ℕ) (v : ℕ) → v ≡ f (decode_head s (head_at k))
    → decode_block (set s (head_at k + copy_in) v) ≡ with_head k (with_copy f (decode_head s (head_at k))) (decode_block s)
unfolding decode_head
copy_put s long k m f v e =
    head_changed s (v ∷ []) (head_at k + copy_in) 1 refl k m (omega arith) (omega arith)
    ∙ ap (λ (h : SlotHead). with_head k h (decode_block s)) copied
  where
    kept : (p : ℕ) → p < head_at k + copy_in → byte (set s (head_at k + copy_in) v) p ≡ byte s p
    kept p l = get_or-set_other s (head_at k + copy_in) p v 0 (λ q. omega arith)

    copied : decode_head (set s (head_at k + copy_in) v) (head_at k) ≡ with_copy f (decode_head s (head_at k))
    copied =
        λ d.
        record {
          filed = kept (head_at k) (omega arith) d;
          ir = kept (head_at k + ir_in) (omega arith) d;
          tr = kept (head_at k + tr_in) (omega arith) d;
          dd = kept (head_at k + dd_in) (omega arith) d;
          rank = kept (head_at k + rank_in) (omega arith) d;
          copy = (get_or-set_same s (head_at k + copy_in) v 0 (omega arith) ∙ e) d;
        }
