-- What the calls do to a station keeps it valid.
--     head_parts, head_whole, entry_parts, entry_whole      what the tests of a slot head and of an entry ask
--     valid_empty            an empty block
--     valid_marked           a block under another settled number, where a settling is under way at both or at neither
--     valid_with_copies      the copies of dd replaced, under another settled number
--     valid_with_slot        a report filed in a slot
--     valid_with_checked     the checked cells put
--     valid_with_block       a station's block and settled number replaced
--     valid_with_station     a station of a store replaced by one of the same number
-- Assumes nothing.
use mathlib.Core.Path.{◌≡◌, refl, sym, ◌∙◌, ap, subst}
use mathlib.Core.Bool.{true, ◌||◌}
use mathlib.Core.List.{List, []}
use Prim.Native.Nat.{ℕ, suc, ◌<◌, ◌≤◌}
use native.Mathlib.Decide.{ℕ_discrete}
use native.Mathlib.Omega.{arith}
use borrow.Author.Tests.{leb-true, le-leb}
use lib.Dec.{lit≤, eqb}
use lib.ListN.{length, get_or, length-set, length-map}
use Rattle.laws.specs.Table.{table}
use Rattle.laws.proofs.Bools.{four, seven}
use Rattle.laws.proofs.Maps.{map_at}
use Rattle.laws.proofs.Tables.{length_table, get_d_table, set_each}
use Rattle.quality.specs.Cell.{Cell, none, slot}
use Rattle.quality.specs.Elements.{column}
use Rattle.quality.specs.Valid.{RawCell, SheetWithin, ValidSheet}
use Rattle.quality.proofs.Validity.{none_valid, column_valid, put_valid, sheet_valid}
use Rattle.store_layout.specs.Model.{Block, Station, Store, unfiled, empty_sheet, empty_block, empty_station, head_of, station_at}
use Rattle.quality.specs.declared.head.SlotHead.{SlotHead}
use Rattle.store_layout.specs.Valid.{is_direction, highest_rank, is_under_way, is_copy, is_head, is_entry, ValidHead, ValidBlock, ValidStation, ValidStore}
use Rattle.store_layout.specs.Updates.{with_slot, with_checked, with_copy, with_copies, with_block, with_station}
use Rattle.store_layout.proofs.Models.{with_count, with_same, with_other}

-- ---- a slot head's test, taken apart and put together
pub record HeadParts (settled : ℕ) (h : SlotHead) : Type 0 where
  pub filed : h.filed ≤ 1
  pub ir : h.ir ≤ 5
  pub tr : h.tr ≤ 9
  pub dd : is_direction h.dd ≡ true
  pub rank : h.rank ≤ highest_rank
  pub unfiled : (eqb h.filed 1 || eqb h.rank 0) ≡ true
  pub copy : is_copy settled h.copy ≡ true

pub head_parts : {settled : ℕ} (h : SlotHead) → ValidHead settled h → HeadParts settled h
unfolding is_head
head_parts h v =
    let p = seven v in
    record { filed = leb-true _ _ p.0; ir = leb-true _ _ p.1; tr = leb-true _ _ p.2; dd = p.3; rank = leb-true _ _ p.4; unfiled = p.5; copy = p.6 }

pub head_whole : {settled : ℕ} (h : SlotHead) → HeadParts settled h → ValidHead settled h
unfolding is_head
head_whole h p =
    rw (le-leb _ _ p.filed, le-leb _ _ p.ir, le-leb _ _ p.tr, p.dd, le-leb _ _ p.rank, p.unfiled, p.copy) refl

-- ---- an entry's test, taken apart and put together
pub record EntryParts (number row settled : ℕ) : Type 0 where
  pub least : 1 ≤ number
  pub most : number ≤ 99999
  pub row_most : row ≤ 1
  pub settled_most : settled ≤ 9

module _ {number row settled : ℕ} where
  pub entry_parts : is_entry number row settled ≡ true → EntryParts number row settled
  unfolding is_entry
  entry_parts e =
      let p = four e in
      record { least = leb-true _ _ p.0; most = leb-true _ _ p.1; row_most = leb-true _ _ p.2; settled_most = leb-true _ _ p.3 }

  pub entry_whole : EntryParts number row settled → is_entry number row settled ≡ true
  unfolding is_entry
  entry_whole p = rw (le-leb _ _ p.least, le-leb _ _ p.most, le-leb _ _ p.row_most) (le-leb _ _ p.settled_most)

-- ---- an empty block
-- its heads and its cells
pub head_empty : (k : ℕ) → k < 9 → head_of empty_block k ≡ unfiled
head_empty k l = get_d_table 9 (λ j. unfiled) k unfiled l

pub slot_empty : (e k : ℕ) → e < 9 → k < 9 → slot (column empty_sheet e) k ≡ none
slot_empty e k l m =
    ap (λ (xs : List Cell). slot xs k) (get_d_table 9 (λ x. table 9 (λ j. none)) e [] l) ∙ get_d_table 9 (λ j. none) k none m

sheet_empty : (states flags : ℕ) → SheetWithin states flags empty_sheet
sheet_empty states flags = sheet_valid _ (λ e l. column_valid _ (λ k m. none_valid states flags e))

pub valid_empty : ValidBlock 0 empty_block
valid_empty =
    record {
      nine = length_table 9 (λ k. unfiled);
      heads = λ k l. subst (ValidHead 0) (sym (head_empty k l)) (head_whole unfiled (record { filed = lit≤ tt; ir = lit≤ tt; tr = lit≤ tt; dd = refl; rank = lit≤ tt; unfiled = refl; copy = refl }));
      raw = sheet_empty 1 0;
      checked = sheet_empty 3 4;
    }

-- ---- the same block under another settled number
pub valid_marked : {old : ℕ} (settled : ℕ) (b : Block) → is_under_way old ≡ is_under_way settled → ValidBlock old b → ValidBlock settled b
unfolding is_head
valid_marked settled b e v = record { nine = v.nine; heads = λ k l. rw (sym e) (v.heads k l); raw = v.raw; checked = v.checked }

-- ---- its copies of dd replaced
valid_with_copy : (old settled : ℕ) (f : SlotHead → ℕ) (h : SlotHead) → is_copy settled (f h) ≡ true → ValidHead old h → ValidHead settled (with_copy f h)
valid_with_copy old settled f h e v =
    let p = head_parts {settled = old} h v in
    head_whole (with_copy f h)
    (record { filed = p.filed; ir = p.ir; tr = p.tr; dd = p.dd; rank = p.rank; unfiled = p.unfiled; copy = e })

pub valid_with_copies : (old settled : ℕ) (f : SlotHead → ℕ) (b : Block) → ((h : SlotHead) → ValidHead old h → is_copy settled (f h) ≡ true)
    → ValidBlock old b → ValidBlock settled (with_copies f b)
unfolding with_copies
valid_with_copies old settled f b e v =
    record {
      nine = length-map b.heads (with_copy f) ∙ v.nine;
      heads = λ k l.
          subst (ValidHead settled) (sym (map_at (with_copy f) b.heads k unfiled unfiled (subst (λ (n : ℕ). k < n) (sym v.nine) l)))
          (valid_with_copy old settled f (head_of b k) (e (head_of b k) (v.heads k l)) (v.heads k l));
      raw = v.raw;
      checked = v.checked;
    }

-- ---- a report filed in slot k
pub valid_with_slot : {settled : ℕ} (k : ℕ) (h : SlotHead) (cells : List Cell) (b : Block) → ValidBlock settled b
    → ValidHead settled h → ((e : ℕ) → e < 9 → RawCell e (get_or cells e none)) → ValidBlock settled (with_slot k h cells b)
unfolding with_slot
valid_with_slot k h cells b v p r =
    record {
      nine = length-set b.heads k h ∙ v.nine;
      heads = set_each (λ (j : ℕ). ValidHead _) unfiled 9 b.heads k h v.nine p v.heads;
      raw = sheet_valid _ (λ e l. put_valid (column b.raw e) k (get_or cells e none) (v.raw.each e l) (r e l));
      checked = v.checked;
    }

-- ---- the checked cells put
pub valid_with_checked : {settled : ℕ} (sheet : List (List Cell)) (b : Block) → ValidBlock settled b → ValidSheet sheet
    → ValidBlock settled (with_checked sheet b)
unfolding with_checked
valid_with_checked sheet b v c = record { nine = v.nine; heads = v.heads; raw = v.raw; checked = c }

-- ---- a station's block and settled number replaced
pub valid_with_block : (b : Block) (settled : ℕ) (t : Station) → ValidStation t → ValidBlock settled b → settled ≤ 9 → ValidStation (with_block b settled t)
unfolding with_block
valid_with_block b settled t v c l =
    let p = entry_parts v.entry in
    record { entry = entry_whole (record { least = p.least; most = p.most; row_most = p.row_most; settled_most = l }); block = c }

-- ---- a station of a store replaced by one of the same number
module _ (i : ℕ) (t : Station) (m : Store) (same : t.number ≡ (station_at m.stations i).number) where
  pub number_kept : (j : ℕ) → j < length m.stations → (station_at (with_station i t m).stations j).number ≡ (station_at m.stations j).number
  number_kept j l = go (ℕ_discrete j i)
    where
      go : Dec (j ≡ i) → (station_at (with_station i t m).stations j).number ≡ (station_at m.stations j).number
      go (yes e) = rw e (ap (λ (u : Station). u.number) (with_same i t m (rw e at l)) ∙ same)
      go (no e) = ap (λ (u : Station). u.number) (with_other i t m j e)

  pub valid_with_station : ValidStore m → ValidStation t → ValidStore (with_station i t m)
  unfolding with_station
  valid_with_station v w =
      record {
        date = v.date;
        some = rw (with_count i t m) v.some;
        few = rw (with_count i t m) v.few;
        each = λ j l. set_each (λ (j : ℕ). ValidStation) empty_station (length m.stations) m.stations i t refl w v.each j (rw (length-set m.stations i t) at l);
        ascending = λ j l.
            let l' : suc j < length m.stations = rw (length-set m.stations i t) at l in
            rw (number_kept j (omega arith), number_kept (suc j) l') (v.ascending j l');
      }
