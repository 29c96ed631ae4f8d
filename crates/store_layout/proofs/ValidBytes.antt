-- What valid things are written as is bytes.
--     bytes_of_head, bytes_of_cell, bytes_of_block      the parts of a block
--     bytes_encode                                  a store
--     sound_encode                                  and it is sound
-- Assumes nothing.
use mathlib.Core.Path.{◌≡◌, sym, subst}
use mathlib.Core.Bool.{true, false≢true}
use mathlib.Core.List.{List}
use Prim.Native.Nat.{ℕ, ◌≤◌}
use native.Mathlib.Omega.{arith}
use borrow.Author.Tests.{leb-true, eqb-true}
use lib.Dec.{leb, eqb}
use lib.ListN.{length}
use Rattle.laws.proofs.Bools.{Known, is_true, is_false, known}
use Rattle.calendar.proofs.Dates.{real}
use Rattle.quality.specs.Cell.{Cell, slot}
use Rattle.quality.specs.Elements.{column}
use Rattle.quality.specs.Valid.{ValidCell, ValidSheet}
use Rattle.quality.proofs.Validity.{cell_parts, state_most, raw_sheet_valid}
use Rattle.store_layout.specs.Model.{Block, Station, Store, head_of, station_at}
use Rattle.quality.specs.declared.head.SlotHead.{SlotHead}
use Rattle.store_layout.specs.Valid.{is_direction, is_under_way, is_copy, ValidHead, ValidBlock, ValidStation, ValidStore}
use Rattle.store_layout.specs.Layout.{unsigned, header_length, block_length, block_at, cell_element, cell_slot, encode_head, encode_cell, encode_sheet, encode_block, encode_entry, encode_header, encode}
use Rattle.store_layout.specs.Framed.{Bytes}
use Rattle.store_layout.specs.Sound.{sound}
use Rattle.store_layout.proofs.Numbers.{unsigned_below}
use Rattle.store_layout.proofs.Bytes.{bytes_none, bytes_more, bytes_append, bytes_pieces, bytes_of_word, bytes_of_long}
use Rattle.store_layout.proofs.Stores.{framed_encode, decode_encode}
use Rattle.store_layout.proofs.Validity.{head_parts, entry_parts}
use Rattle.store_layout.proofs.Soundness.{valid_sound}

-- a direction is 100 at most
pub direction_most : (dd : ℕ) → is_direction dd ≡ true → dd ≤ 100
direction_most dd e = go (known (leb dd 36)) (known (eqb dd 99)) (known (eqb dd 100))
  where
    go : Known (leb dd 36) → Known (eqb dd 99) → Known (eqb dd 100) → dd ≤ 100
    go (is_true t) q r = omega (arith, leb-true dd 36 t)
    go (is_false f) (is_true t) r = omega (arith, eqb-true dd 99 t)
    go (is_false f) (is_false g) (is_true t) = omega (arith, eqb-true dd 100 t)
    go (is_false f) (is_false g) (is_false h) = absurd (false≢true (rw (f, g, h) at e))

-- and so is a copy of one
copy_most : (settled copy : ℕ) → is_copy settled copy ≡ true → copy ≤ 100
copy_most settled copy e = go (known (is_under_way settled))
  where
    go : Known (is_under_way settled) → copy ≤ 100
    go (is_true t) = direction_most copy (rw t at e)
    go (is_false f) = omega (arith, eqb-true copy 0 (rw f at e))

pub bytes_of_head : (settled : ℕ) (h : SlotHead) → ValidHead settled h → Bytes (encode_head h)
unfolding encode_head
bytes_of_head settled h v =
    let p = head_parts {settled = settled} h v in
    bytes_more (omega (arith, p.filed))
    (bytes_more (omega (arith, p.ir))
    (bytes_more (omega (arith, p.tr))
    (bytes_more (omega (arith, direction_most h.dd p.dd))
    (bytes_more (omega (arith, p.rank)) (bytes_more (omega (arith, copy_most settled h.copy p.copy)) bytes_none)))))

pub bytes_of_cell : {e : ℕ} (c : Cell) → ValidCell e c → Bytes (encode_cell c)
unfolding encode_cell
bytes_of_cell {e} c v =
    let p = cell_parts v in
    bytes_more (omega (arith, state_most e c v))
    (bytes_more (omega (arith, p.flag)) (bytes_of_word (unsigned c.value) (unsigned_below c.value (omega (arith, p.size)))))

pub bytes_of_sheet : (s : List (List Cell)) → ValidSheet s → Bytes (encode_sheet s)
unfolding encode_sheet
bytes_of_sheet s v =
    bytes_pieces 81 (λ j. encode_cell (slot (column s (cell_element j)) (cell_slot j)))
    (λ j l. bytes_of_cell _ ((v.each (cell_element j) (omega arith)).each (cell_slot j) (omega arith)))

pub bytes_of_block : {settled : ℕ} (b : Block) → ValidBlock settled b → Bytes (encode_block b)
unfolding encode_block
bytes_of_block {settled} b v =
    bytes_append (bytes_pieces 9 (λ k. encode_head (head_of b k)) (λ k l. bytes_of_head settled _ (v.heads k l)))
    (bytes_append (bytes_of_sheet b.raw (raw_sheet_valid b.raw v.raw)) (bytes_of_sheet b.checked v.checked))

pub bytes_of_entry : (t : Station) → ValidStation t → Bytes (encode_entry t)
unfolding encode_entry
bytes_of_entry t v =
    let p = entry_parts v.entry in
    bytes_append (bytes_of_long t.number (omega (arith, p.most)))
    (bytes_append (bytes_of_word t.row (omega (arith, p.row_most))) (bytes_of_word t.settled (omega (arith, p.settled_most))))

pub bytes_of_header : (m : Store) → ValidStore m → Bytes (encode_header m)
unfolding encode_header
bytes_of_header m v =
    let r = real m.year m.month m.day v.date in
    bytes_append (bytes_of_word (length m.stations) (omega (arith, v.few)))
    (bytes_append (bytes_of_word header_length (omega arith))
    (bytes_append (bytes_of_word (block_at (length m.stations) 0) (omega (arith, v.few)))
    (bytes_append (bytes_of_word block_length (omega arith))
    (bytes_append (bytes_of_word m.year (omega (arith, r.year_to)))
    (bytes_append (bytes_of_word m.month (omega (arith, r.month_to)))
    (bytes_append (bytes_of_word m.day (omega (arith, r.day_to))) (bytes_of_word 0 (omega arith))))))))

pub bytes_encode : (m : Store) → ValidStore m → Bytes (encode m)
unfolding encode
bytes_encode m v =
    bytes_append (bytes_of_header m v)
    (bytes_append
    (bytes_pieces (length m.stations) (λ i. encode_entry (station_at m.stations i)) (λ i l. bytes_of_entry _ (v.each i l)))
    (bytes_pieces (length m.stations) (λ i. encode_block (station_at m.stations i).block) (λ i l. bytes_of_block _ (v.each i l).block)))

pub sound_encode : (m : Store) → ValidStore m → sound (encode m) ≡ true
sound_encode m v =
    valid_sound (encode m) (bytes_encode m v) (framed_encode m v.some v.few) (subst ValidStore (sym (decode_encode m v)) v)
