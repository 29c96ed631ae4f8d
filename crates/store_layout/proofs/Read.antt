-- What is read of a stretch of bytes: a word, a long, a head, a cell.
--     word_same, long_same, head_same, cell_same      it depends on the stretch alone
--     word_part, long_part, head_part, cell_part      written again, it gives the stretch back
--     head_bytes, cell_bytes                          read from its own bytes, it is itself
-- Assumes nothing.
use mathlib.Core.Path.{◌≡◌, refl, sym, ◌∙◌, ap, ap₂}
use mathlib.Core.List.{List, [], ◌∷◌}
use Prim.Native.Nat.{ℕ, ◌+◌, ◌*◌, ◌<◌, ◌≤◌}
use native.Mathlib.Nat.{add-zero}
use native.Mathlib.Omega.{arith}
use lib.IntN.{nat_abs}
use lib.ListN.{length, take, drop}
use Rattle.laws.specs.Table.{table}
use Rattle.quality.specs.Cell.{Cell}
use Rattle.quality.specs.declared.head.SlotHead.{SlotHead}
use Rattle.store_layout.specs.Layout.{byte, word, long, word_bytes, long_bytes, signed, unsigned, head_length, ir_in, tr_in, dd_in, rank_in, copy_in, cell_length, flag_in, decode_head, encode_head, decode_cell, encode_cell}
use Rattle.store_layout.specs.Framed.{Bytes}
use Rattle.store_layout.proofs.Numbers.{bytes_word, bytes_long, word_below, signed_unsigned, unsigned_signed, word_of_bytes}
use Rattle.store_layout.proofs.Parts.{Same, part_table}

-- the place after the next two
after : (i : ℕ) → i + 2 + 1 ≡ i + 3
after i = omega arith

-- ---- it depends on the stretch alone
module _ {s t : List ℕ} {i j : ℕ} where
  first : {n : ℕ} → Same n s i t j → 0 < n → byte s i ≡ byte t j
  first h l = simp add-zero at (h.each 0 l)

  pub word_same : Same 2 s i t j → word s i ≡ word t j
  word_same h = ap₂ (λ (x y : ℕ). 256 * x + y) (first h (omega arith)) (h.each 1 (omega arith))

  fourth : Same 4 s i t j → byte s (i + 2 + 1) ≡ byte t (j + 2 + 1)
  fourth h = rw (after i, after j) (h.each 3 (omega arith))

  word_after : Same 4 s i t j → word s (i + 2) ≡ word t (j + 2)
  word_after h = ap₂ (λ (x y : ℕ). 256 * x + y) (h.each 2 (omega arith)) (fourth h)

  pub long_same : Same 4 s i t j → long s i ≡ long t j
  long_same h =
      ap₂ (λ (x y : ℕ). 65536 * x + y) (ap₂ (λ (x y : ℕ). 256 * x + y) (first h (omega arith)) (h.each 1 (omega arith))) (word_after h)

  pub head_same : Same head_length s i t j → decode_head s i ≡ decode_head t j
  unfolding decode_head
  head_same h =
      λ d.
      record {
        filed = first h (omega arith) d;
        ir = h.each ir_in (omega arith) d;
        tr = h.each tr_in (omega arith) d;
        dd = h.each dd_in (omega arith) d;
        rank = h.each rank_in (omega arith) d;
        copy = h.each copy_in (omega arith) d;
      }

  pub cell_same : Same cell_length s i t j → decode_cell s i ≡ decode_cell t j
  unfolding decode_cell
  cell_same h =
      λ d. record { state = first h (omega arith) d; flag = h.each flag_in (omega arith) d; value = signed (word_after h d) }

-- ---- written again, it gives the stretch back
module _ (s : List ℕ) (b : Bytes s) (i : ℕ) where
  two : i + 2 ≤ length s → take 2 (drop i s) ≡ byte s i ∷ byte s (i + 1) ∷ []
  unfolding table
  two h = simp add-zero at (part_table 2 i s h)

  four : i + 4 ≤ length s → take 4 (drop i s) ≡ byte s i ∷ byte s (i + 1) ∷ byte s (i + 2) ∷ byte s (i + 2 + 1) ∷ []
  unfolding table
  four h = rw (after i) (simp add-zero at (part_table 4 i s h))

  pub word_part : i + 2 ≤ length s → word_bytes (word s i) ≡ take 2 (drop i s)
  word_part h = bytes_word (byte s i) (byte s (i + 1)) (b.each i) (b.each (i + 1)) ∙ sym (two h)

  pub long_part : i + 4 ≤ length s → long_bytes (long s i) ≡ take 4 (drop i s)
  long_part h =
      bytes_long (byte s i) (byte s (i + 1)) (byte s (i + 2)) (byte s (i + 2 + 1)) (b.each i) (b.each (i + 1)) (b.each (i + 2)) (b.each (i + 2 + 1))
      ∙ sym (four h)

  pub head_part : i + head_length ≤ length s → encode_head (decode_head s i) ≡ take head_length (drop i s)
  unfolding decode_head encode_head table
  head_part h = sym (simp add-zero at (part_table head_length i s h))

  pub cell_part : i + cell_length ≤ length s → encode_cell (decode_cell s i) ≡ take cell_length (drop i s)
  unfolding decode_cell encode_cell
  cell_part h =
      rw (unsigned_signed (word s (i + 2)) (word_below s b (i + 2)))
      (ap (λ (l : List ℕ). byte s i ∷ byte s (i + 1) ∷ l) (bytes_word (byte s (i + 2)) (byte s (i + 2 + 1)) (b.each (i + 2)) (b.each (i + 2 + 1)))
      ∙ sym (four h))

-- ---- read from its own bytes, it is itself
pub head_bytes : (h : SlotHead) → decode_head (encode_head h) 0 ≡ h
unfolding decode_head encode_head
head_bytes h = refl

pub cell_bytes : (c : Cell) → nat_abs c.value ≤ 32767 → decode_cell (encode_cell c) 0 ≡ c
unfolding decode_cell encode_cell
cell_bytes c l = rw (word_of_bytes (unsigned c.value), signed_unsigned c.value l)

pub length_head : (h : SlotHead) → length (encode_head h) ≡ head_length
unfolding encode_head
length_head h = refl

pub length_cell : (c : Cell) → length (encode_cell c) ≡ cell_length
unfolding encode_cell
length_cell c = refl
