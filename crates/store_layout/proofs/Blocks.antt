-- A block's bytes, there and back.
--     length_block                            a block's length
--     head_of_block, raw_of, checked_of             what is read, by slot and element
--     head_from, raw_cell_from, checked_cell_from       the same of a block that begins at a
--     head_in, raw_in, checked_in             a head's and a cell's bytes in the block's
--     block_by_parts, encode_decode_block     the bytes of what is read are the bytes
--     block_ext, decode_encode_block          what is read of a valid block's bytes is the block
-- Assumes nothing.
use mathlib.Core.Path.{◌≡◌, sym, ◌∙◌, ap}
use mathlib.Core.List.{List, [], ◌++◌}
use Prim.Native.Nat.{ℕ, ◌+◌, ◌*◌, ◌<◌, ◌≤◌}
use native.Mathlib.Nat.{zero-add}
use native.Mathlib.Omega.{arith}
use lib.IntN.{nat_abs}
use lib.ListN.{length, take, drop, length-append}
use lib.Seq.{take_all}
use Rattle.laws.specs.Table.{table}
use Rattle.laws.proofs.Tables.{get_d_table, is_table, length_table}
use Rattle.quality.specs.Cell.{Cell, none, slot}
use Rattle.quality.specs.Elements.{column}
use Rattle.quality.proofs.Validity.{cell_parts}
use Rattle.quality.specs.Valid.{SheetWithin}
use Rattle.store_layout.specs.Model.{Block, unfiled, head_of}
use Rattle.store_layout.specs.Valid.{ValidBlock}
use Rattle.store_layout.specs.Layout.{block_length, head_length, cell_length, sheet_length, raw_from, checked_from, cell_index, cell_element, cell_slot, head_at, raw_at, checked_at, pieces, decode_head, encode_head, decode_cell, encode_cell, decode_block, encode_sheet, encode_block}
use Rattle.store_layout.specs.Framed.{Bytes}
use Rattle.store_layout.proofs.Parts.{part_left, part_right, joined, same_part, same_is}
use Rattle.store_layout.proofs.Pieces.{pieces_ext, pieces_at, pieces_parts, length_pieces}
use Rattle.store_layout.proofs.Read.{head_same, cell_same, head_part, cell_part, head_bytes, cell_bytes, length_head, length_cell}

-- the sheet whose cells lie from a on, slot by slot
abbrev pub sheet_from : List ℕ → ℕ → List (List Cell)
sheet_from s a = table 9 (λ e. table 9 (λ k. decode_cell s (a + cell_length * cell_index e k)))

-- ---- lengths
pub length_sheet : (sh : List (List Cell)) → length (encode_sheet sh) ≡ sheet_length
unfolding encode_sheet
length_sheet sh = length_pieces 81 cell_length (λ j. encode_cell (slot (column sh (cell_element j)) (cell_slot j))) (λ j. length_cell _)

pub length_heads : (b : Block) → length (pieces 9 (λ k. encode_head (head_of b k))) ≡ raw_from
length_heads b = length_pieces 9 head_length (λ k. encode_head (head_of b k)) (λ k. length_head _)

pub length_block : (b : Block) → length (encode_block b) ≡ block_length
unfolding encode_block
length_block b =
    length-append (pieces 9 (λ k. encode_head (head_of b k))) (encode_sheet b.raw ++ encode_sheet b.checked)
    ∙ omega (arith, length_heads b, length-append (encode_sheet b.raw) (encode_sheet b.checked), length_sheet b.raw, length_sheet b.checked)

-- ---- what is read of a block, by slot and element
pub head_of_block : (s : List ℕ) (k : ℕ) → k < 9 → head_of (decode_block s) k ≡ decode_head s (head_at k)
unfolding decode_block
head_of_block s k l = get_d_table 9 (λ j. decode_head s (head_at j)) k unfiled l

-- the cells of a sheet are read by one law, raw or checked
pub slot_sheet : (s : List ℕ) (a e k : ℕ) → e < 9 → k < 9 → slot (column (sheet_from s a) e) k ≡ decode_cell s (a + cell_length * cell_index e k)
slot_sheet s a e k p q =
    ap (λ (xs : List Cell). slot xs k) (get_d_table 9 (λ x. table 9 (λ j. decode_cell s (a + cell_length * cell_index x j))) e [] p)
    ∙ get_d_table 9 (λ j. decode_cell s (a + cell_length * cell_index e j)) k none q

pub raw_of : (s : List ℕ) (e k : ℕ) → e < 9 → k < 9 → slot (column (decode_block s).raw e) k ≡ decode_cell s (raw_at e k)
unfolding decode_block
raw_of s = slot_sheet s raw_from

pub checked_of : (s : List ℕ) (e k : ℕ) → e < 9 → k < 9 → slot (column (decode_block s).checked e) k ≡ decode_cell s (checked_at e k)
unfolding decode_block
checked_of s = slot_sheet s checked_from

-- of the block that begins at a
pub head_from : (s : List ℕ) (a k : ℕ) → k < 9 → head_of (decode_block (take block_length (drop a s))) k ≡ decode_head s (a + head_at k)
head_from s a k l = head_of_block (take block_length (drop a s)) k l ∙ head_same (same_part head_length block_length a (head_at k) s (omega arith))

pub slot_from : (s : List ℕ) (a d e k : ℕ) → d + sheet_length ≤ block_length → e < 9 → k < 9
    → slot (column (sheet_from (take block_length (drop a s)) d) e) k ≡ decode_cell s (a + (d + cell_length * cell_index e k))
slot_from s a d e k h l m =
    slot_sheet (take block_length (drop a s)) d e k l m ∙ cell_same (same_part cell_length block_length a (d + cell_length * cell_index e k) s (omega arith))

pub raw_cell_from : (s : List ℕ) (a e k : ℕ) → e < 9 → k < 9 → slot (column (decode_block (take block_length (drop a s))).raw e) k ≡ decode_cell s (a + raw_at e k)
unfolding decode_block
raw_cell_from s a e k l m = slot_from s a raw_from e k (omega arith) l m

pub checked_cell_from : (s : List ℕ) (a e k : ℕ) → e < 9 → k < 9
    → slot (column (decode_block (take block_length (drop a s))).checked e) k ≡ decode_cell s (a + checked_at e k)
unfolding decode_block
checked_cell_from s a e k l m = slot_from s a checked_from e k (omega arith) l m

-- ---- a block's bytes, by its heads and cells
pub sheet_by_parts : (s : List ℕ) (a : ℕ) (sh : List (List Cell))
    → ((e k : ℕ) → e < 9 → k < 9 → take cell_length (drop (a + cell_length * cell_index e k) s) ≡ encode_cell (slot (column sh e) k))
    → encode_sheet sh ≡ take sheet_length (drop a s)
unfolding encode_sheet
sheet_by_parts s a sh h =
    pieces_ext 81 (λ j. encode_cell (slot (column sh (cell_element j)) (cell_slot j))) (λ j. take cell_length (drop (a + cell_length * j) s)) one
    ∙ pieces_parts 81 cell_length a s
  where
    one : (j : ℕ) → j < 81 → encode_cell (slot (column sh (cell_element j)) (cell_slot j)) ≡ take cell_length (drop (a + cell_length * j) s)
    one j l =
        let e : cell_index (cell_element j) (cell_slot j) ≡ j = omega arith in
        sym (rw e at (h (cell_element j) (cell_slot j) (omega arith) (omega arith)))

-- the heads and cells of b lie in s where the layout says
pub record Laid (s : List ℕ) (b : Block) : Type 0 where
  pub heads : (k : ℕ) → k < 9 → take head_length (drop (head_at k) s) ≡ encode_head (head_of b k)
  pub raw : (e k : ℕ) → e < 9 → k < 9 → take cell_length (drop (raw_at e k) s) ≡ encode_cell (slot (column b.raw e) k)
  pub checked : (e k : ℕ) → e < 9 → k < 9 → take cell_length (drop (checked_at e k) s) ≡ encode_cell (slot (column b.checked e) k)

pub block_by_parts : (s : List ℕ) (b : Block) → length s ≡ block_length → Laid s b → encode_block b ≡ s
unfolding encode_block
block_by_parts s b e h =
    joined raw_from (sheet_length + sheet_length) 0 s heads
    (joined sheet_length sheet_length raw_from s (sheet_by_parts s raw_from b.raw h.raw) (sheet_by_parts s checked_from b.checked h.checked))
    ∙ take_all block_length s (omega arith)
  where
    heads : pieces 9 (λ k. encode_head (head_of b k)) ≡ take raw_from (drop 0 s)
    heads =
        pieces_ext 9 (λ k. encode_head (head_of b k)) (λ k. take head_length (drop (0 + head_at k) s)) (λ k l. rw zero-add (sym (h.heads k l)))
        ∙ pieces_parts 9 head_length 0 s

-- so the bytes of what is read are the bytes
pub encode_decode_block : (s : List ℕ) → Bytes s → length s ≡ block_length → encode_block (decode_block s) ≡ s
encode_decode_block s b e =
    block_by_parts s (decode_block s) e
    (record {
      heads = λ k l. sym (ap encode_head (head_of_block s k l) ∙ head_part s b (head_at k) (omega arith));
      raw = λ x k l m. sym (ap encode_cell (raw_of s x k l m) ∙ cell_part s b (raw_at x k) (omega arith));
      checked = λ x k l m. sym (ap encode_cell (checked_of s x k l m) ∙ cell_part s b (checked_at x k) (omega arith));
    })

-- ---- where a block's heads and cells lie in its bytes
pub cell_in : (sh : List (List Cell)) (e k : ℕ) → e < 9 → k < 9 → take cell_length (drop (cell_length * cell_index e k) (encode_sheet sh)) ≡ encode_cell (slot (column sh e) k)
unfolding encode_sheet
cell_in sh e k p q =
    let m : cell_element (cell_index e k) ≡ e = omega arith in
    let d : cell_slot (cell_index e k) ≡ k = omega arith in
    pieces_at 81 cell_length (λ j. encode_cell (slot (column sh (cell_element j)) (cell_slot j))) (λ j. length_cell _) (cell_index e k) (omega arith) ∙ rw (m, d)

module _ (b : Block) where
  pub head_in : (k : ℕ) → k < 9 → take head_length (drop (head_at k) (encode_block b)) ≡ encode_head (head_of b k)
  unfolding encode_block
  head_in k l =
      part_left head_length (head_at k) (pieces 9 (λ j. encode_head (head_of b j))) (encode_sheet b.raw ++ encode_sheet b.checked) (omega (arith, length_heads b))
      ∙ pieces_at 9 head_length (λ j. encode_head (head_of b j)) (λ j. length_head _) k l

  pub raw_in : (e k : ℕ) → e < 9 → k < 9 → take cell_length (drop (raw_at e k) (encode_block b)) ≡ encode_cell (slot (column b.raw e) k)
  unfolding encode_block
  raw_in e k p q =
      part_right cell_length (cell_length * cell_index e k) raw_from (pieces 9 (λ j. encode_head (head_of b j))) (encode_sheet b.raw ++ encode_sheet b.checked) (length_heads b)
      ∙ part_left cell_length (cell_length * cell_index e k) (encode_sheet b.raw) (encode_sheet b.checked) (omega (arith, length_sheet b.raw))
      ∙ cell_in b.raw e k p q

  pub checked_in : (e k : ℕ) → e < 9 → k < 9 → take cell_length (drop (checked_at e k) (encode_block b)) ≡ encode_cell (slot (column b.checked e) k)
  unfolding encode_block
  checked_in e k p q =
      let z : checked_at e k ≡ raw_from + (sheet_length + cell_length * cell_index e k) = omega arith in
      rw z
      (part_right cell_length (sheet_length + cell_length * cell_index e k) raw_from (pieces 9 (λ j. encode_head (head_of b j))) (encode_sheet b.raw ++ encode_sheet b.checked) (length_heads b)
      ∙ part_right cell_length (cell_length * cell_index e k) sheet_length (encode_sheet b.raw) (encode_sheet b.checked) (length_sheet b.raw)
      ∙ cell_in b.checked e k p q)

-- ---- a block read by its heads and cells
-- nine columns of nine, whatever the cells
pub record Square (sh : List (List Cell)) : Type 0 where
  pub long : length sh ≡ 9
  pub each : (e : ℕ) → e < 9 → length (column sh e) ≡ 9

pub record Shaped (b : Block) : Type 0 where
  pub nine : length b.heads ≡ 9
  pub raw : Square b.raw
  pub checked : Square b.checked

pub square_valid : {states flags : ℕ} {sh : List (List Cell)} → SheetWithin states flags sh → Square sh
square_valid v = record { long = v.long; each = λ e l. (v.each e l).long }

pub shaped_valid : {settled : ℕ} {b : Block} → ValidBlock settled b → Shaped b
shaped_valid v = record { nine = v.nine; raw = square_valid v.raw; checked = square_valid v.checked }

pub square_read : (s : List ℕ) (a : ℕ) → Square (sheet_from s a)
square_read s a =
    record { long = length_table 9 _; each = λ e l. ap length (get_d_table 9 (λ x. table 9 (λ k. decode_cell s (a + cell_length * cell_index x k))) e [] l) ∙ length_table 9 _ }

pub shaped_read : (s : List ℕ) → Shaped (decode_block s)
unfolding decode_block
shaped_read s = record { nine = length_table 9 _; raw = square_read s raw_from; checked = square_read s checked_from }

pub sheet_ext : (s : List ℕ) (a : ℕ) (sh : List (List Cell)) → Square sh
    → ((e k : ℕ) → e < 9 → k < 9 → slot (column sh e) k ≡ decode_cell s (a + cell_length * cell_index e k)) → sheet_from s a ≡ sh
sheet_ext s a sh v h =
    sym
    (is_table 9 (λ e. table 9 (λ k. decode_cell s (a + cell_length * cell_index e k))) sh [] v.long
    (λ e l. is_table 9 (λ k. decode_cell s (a + cell_length * cell_index e k)) (column sh e) none (v.each e l) (λ k m. h e k l m)))

pub block_ext : (s : List ℕ) (b : Block) → Shaped b
    → ((k : ℕ) → k < 9 → head_of b k ≡ decode_head s (head_at k))
    → ((e k : ℕ) → e < 9 → k < 9 → slot (column b.raw e) k ≡ decode_cell s (raw_at e k))
    → ((e k : ℕ) → e < 9 → k < 9 → slot (column b.checked e) k ≡ decode_cell s (checked_at e k))
    → decode_block s ≡ b
unfolding decode_block
block_ext s b v h r c =
    λ d.
    record {
      heads = sym (is_table 9 (λ k. decode_head s (head_at k)) b.heads unfiled v.nine h) d;
      raw = sheet_ext s raw_from b.raw v.raw r d;
      checked = sheet_ext s checked_from b.checked v.checked c d;
    }

-- so what is read where a valid block's bytes lie is the block
pub block_read : {settled : ℕ} (s : List ℕ) (b : Block) → ValidBlock settled b → Laid s b → decode_block s ≡ b
block_read s b v h =
    block_ext s b (shaped_valid v)
    (λ k l. sym (head_same (same_is {n = head_length} (h.heads k l)) ∙ head_bytes (head_of b k)))
    (λ e k l m. cell (slot (column b.raw e) k) (raw_at e k) (h.raw e k l m) (cell_parts ((v.raw.each e l).each k m)).size)
    (λ e k l m. cell (slot (column b.checked e) k) (checked_at e k) (h.checked e k l m) (cell_parts ((v.checked.each e l).each k m)).size)
  where
    cell : (c : Cell) (p : ℕ) → take cell_length (drop p s) ≡ encode_cell c → nat_abs c.value ≤ 32767 → c ≡ decode_cell s p
    cell c p e z = sym (cell_same (same_is {n = cell_length} e) ∙ cell_bytes c z)

pub decode_encode_block : {settled : ℕ} (b : Block) → ValidBlock settled b → decode_block (encode_block b) ≡ b
decode_encode_block b v = block_read (encode_block b) b v (record { heads = head_in b; raw = raw_in b; checked = checked_in b })
