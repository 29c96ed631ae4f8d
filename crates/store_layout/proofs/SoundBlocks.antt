-- A block's bytes pass the tests of a sound store exactly if what is read of them is valid.
--     block_valid, valid_block      a block
-- Assumes nothing.
use mathlib.Core.Path.{◌≡◌, refl, sym, ◌∙◌}
use mathlib.Core.Bool.{Bool, true, ◌&&◌}
use mathlib.Core.List.{List}
use Prim.Native.Nat.{ℕ, ◌+◌, ◌*◌, ◌<◌, ◌≤◌}
use native.Mathlib.Omega.{arith}
use lib.Dec.{lit≤}
use lib.ListN.{take, drop}
use Rattle.laws.specs.All.{all}
use Rattle.laws.proofs.Bools.{both}
use Rattle.laws.proofs.Tables.{all_at, all_from, length_table}
use Rattle.quality.specs.Valid.{SheetWithin}
use Rattle.store_layout.specs.Model.{head_of}
use Rattle.store_layout.specs.Valid.{ValidHead, ValidBlock}
use Rattle.store_layout.specs.Layout.{block_length, sheet_length, cell_length, raw_from, checked_from, cell_index, cell_element, cell_slot, head_at, decode_block}
use Rattle.store_layout.specs.Sound.{sound_head, sound_cell, sound_block}
use Rattle.store_layout.proofs.Blocks.{sheet_from, head_from, slot_from, square_read}

-- ---- the cells of a sheet
-- in the order in which the sound ones are counted
module _ (p : ℕ → ℕ → Bool) where
  cells_at : all (λ j. p (cell_element j) (cell_slot j)) 81 ≡ true → (e k : ℕ) → e < 9 → k < 9 → p e k ≡ true
  cells_at h e k l m =
      let x : cell_element (cell_index e k) ≡ e = omega arith in
      let y : cell_slot (cell_index e k) ≡ k = omega arith in
      rw (x, y) at (all_at (λ j. p (cell_element j) (cell_slot j)) 81 h (cell_index e k) (omega arith))

  cells_from : ((e k : ℕ) → e < 9 → k < 9 → p e k ≡ true) → all (λ j. p (cell_element j) (cell_slot j)) 81 ≡ true
  cells_from h = all_from (λ j. p (cell_element j) (cell_slot j)) 81 (λ j l. h (cell_element j) (cell_slot j) (omega arith) (omega arith))

-- the sheet at d of the block that begins at a
module _ (s : List ℕ) (a d states flags : ℕ) (fits : d + sheet_length ≤ block_length) where
  -- the test of the cell of element e at slot k
  cell_test : ℕ → ℕ → Bool
  cell_test e k = sound_cell states flags e s (a + (d + cell_length * cell_index e k))

  sheet_test : Bool
  sheet_test = all (λ j. cell_test (cell_element j) (cell_slot j)) 81

  sheet_valid : sheet_test ≡ true → SheetWithin states flags (sheet_from (take block_length (drop a s)) d)
  unfolding cell_test sheet_test
  sheet_valid p =
      let q = square_read (take block_length (drop a s)) d in
      record {
        long = q.long;
        each = λ e l. record { long = q.each e l; each = λ k m. record { test = rw (slot_from s a d e k fits l m) (cells_at cell_test p e k l m) } };
      }

  valid_sheet : SheetWithin states flags (sheet_from (take block_length (drop a s)) d) → sheet_test ≡ true
  unfolding cell_test sheet_test
  valid_sheet v = cells_from cell_test (λ e k l m. rw (slot_from s a d e k fits l m) at ((v.each e l).each k m).test)

-- ---- a block, the one that begins at a
module _ (s : List ℕ) (a settled : ℕ) where
  heads_test : Bool
  heads_test = all (λ k. sound_head settled s (a + head_at k)) 9

  heads_valid : heads_test ≡ true → (k : ℕ) → k < 9 → ValidHead settled (head_of (decode_block (take block_length (drop a s))) k)
  unfolding heads_test
  heads_valid p k l = rw (head_from s a k l) (all_at (λ j. sound_head settled s (a + head_at j)) 9 p k l)

  valid_heads : ((k : ℕ) → k < 9 → ValidHead settled (head_of (decode_block (take block_length (drop a s))) k)) → heads_test ≡ true
  unfolding heads_test
  valid_heads v = all_from (λ k. sound_head settled s (a + head_at k)) 9 (λ k l. rw (head_from s a k l) at (v k l))

  raw_test : Bool
  raw_test = sheet_test s a raw_from 1 0 (lit≤ tt)

  checked_test : Bool
  checked_test = sheet_test s a checked_from 3 4 (lit≤ tt)

  tested : sound_block settled s a ≡ (heads_test && raw_test && checked_test)
  unfolding sound_block heads_test raw_test checked_test cell_test sheet_test
  tested = refl

  pub block_valid : sound_block settled s a ≡ true → ValidBlock settled (decode_block (take block_length (drop a s)))
  unfolding decode_block raw_test checked_test
  block_valid e =
      let p = both (sym tested ∙ e) in
      let q = both p.0 in
      record {
        nine = length_table 9 _;
        heads = heads_valid q.0;
        raw = sheet_valid s a raw_from 1 0 (lit≤ tt) q.1;
        checked = sheet_valid s a checked_from 3 4 (lit≤ tt) p.1;
      }

  pub valid_block : ValidBlock settled (decode_block (take block_length (drop a s))) → sound_block settled s a ≡ true
  unfolding decode_block raw_test checked_test
  valid_block v =
      tested ∙ rw (valid_heads v.heads, valid_sheet s a raw_from 1 0 (lit≤ tt) v.raw, valid_sheet s a checked_from 3 4 (lit≤ tt) v.checked)
