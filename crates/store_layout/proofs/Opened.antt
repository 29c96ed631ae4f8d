-- An accepted open leaves a valid store.
--     openable_parts      what it tells that a store may be opened
--     can_open_in_form            and whatever the form and the length
--     fresh_count, fresh_station      the stations of a fresh store
--     valid_fresh         a fresh store is valid
-- Assumes nothing.
use mathlib.Core.Path.{◌≡◌, refl, ◌∙◌}
use mathlib.Core.Bool.{Bool, true, ◌&&◌}
use mathlib.Core.List.{List}
use Prim.Native.Nat.{ℕ, suc, ◌-◌, ◌<◌, ◌≤◌}
use native.Mathlib.Omega.{arith}
use borrow.Author.Tests.{leb-true, ltb-true, eqb-true, eq-eqb}
use lib.Dec.{leb, ltb, lit≤}
use lib.ListN.{length, get_or}
use Rattle.laws.specs.All.{all}
use Rattle.laws.proofs.Bools.{both, seven, and_true, and_left}
use Rattle.laws.proofs.Tables.{all_at, length_table, get_d_table}
use Rattle.calendar.specs.Dates.{is_date}
use Rattle.store_layout.specs.Model.{empty_block, empty_station, station_at}
use Rattle.store_layout.specs.Valid.{ValidStation, ValidStore}
use Rattle.store_layout.specs.Layout.{store_length}
use Rattle.store_layout.specs.Form.{Form}
use Rattle.store_layout.specs.Opening.{can_open, openable_in, openable, fresh}
use Rattle.store_layout.proofs.Validity.{entry_whole, valid_empty}

module _ (year month day : ℕ) (numbers rows : List ℕ) where
  -- what an accepted open was asked for
  pub record Openable (size : ℕ) : Type 0 where
    pub some : 1 ≤ length numbers
    pub few : length numbers ≤ 32
    pub paired : length rows ≡ length numbers
    pub long : size ≡ store_length (length numbers)
    pub date : is_date year month day ≡ true
    pub least : (i : ℕ) → i < length numbers → 1 ≤ get_or numbers i 0
    pub most : (i : ℕ) → i < length numbers → get_or numbers i 0 ≤ 99999
    pub row : (i : ℕ) → i < length numbers → get_or rows i 0 ≤ 1
    pub ascending : (i : ℕ) → suc i < length numbers → get_or numbers i 0 < get_or numbers (suc i) 0

  entry_test : ℕ → Bool
  entry_test i = leb 1 (get_or numbers i 0) && leb (get_or numbers i 0) 99999 && leb (get_or rows i 0) 1

  -- what the test of one entry asks
  record Entry (i : ℕ) : Type 0 where
    least : 1 ≤ get_or numbers i 0
    most : get_or numbers i 0 ≤ 99999
    row : get_or rows i 0 ≤ 1

  entry_parts : all entry_test (length numbers) ≡ true → (i : ℕ) → i < length numbers → Entry i
  unfolding entry_test
  entry_parts e i l =
      let q = both (all_at entry_test (length numbers) e i l) in
      let p = both q.0 in
      record { least = leb-true _ _ p.0; most = leb-true _ _ p.1; row = leb-true _ _ q.1 }

  pub openable_parts : (size : ℕ) → openable size year month day numbers rows ≡ true → Openable size
  unfolding openable_in can_open entry_test
  openable_parts size e =
      let p = seven e in
      record {
        some = leb-true _ _ p.0;
        few = leb-true _ _ p.1;
        paired = eqb-true _ _ p.2;
        long = eqb-true _ _ p.6;
        date = p.3;
        least = λ i l. (entry_parts p.4 i l).least;
        most = λ i l. (entry_parts p.4 i l).most;
        row = λ i l. (entry_parts p.4 i l).row;
        ascending = λ i l.
            ltb-true _ _ (all_at (λ j. ltb (get_or numbers j 0) (get_or numbers (suc j) 0)) (length numbers - 1) p.5 i (omega arith));
      }

  pub can_open_in_form : (form : Form) (size : ℕ) → openable_in form size year month day numbers rows ≡ true → can_open year month day numbers rows ≡ true
  unfolding openable_in
  can_open_in_form form size e = and_left _ _ e

  as_long : can_open year month day numbers rows ≡ true → openable (store_length (length numbers)) year month day numbers rows ≡ true
  unfolding openable_in
  as_long e = and_true _ _ e (eq-eqb (store_length (length numbers)) (store_length (length numbers)) refl)

  -- ---- the stations of a fresh store
  pub fresh_count : length (fresh year month day numbers rows).stations ≡ length numbers
  unfolding fresh
  fresh_count = length_table (length numbers) _

  pub fresh_station : (i : ℕ) → i < length numbers
      → station_at (fresh year month day numbers rows).stations i ≡ record { number = get_or numbers i 0; row = get_or rows i 0; settled = 0; block = empty_block }
  unfolding fresh
  fresh_station i l = get_d_table (length numbers) _ i empty_station l

  fresh_date : is_date (fresh year month day numbers rows).year (fresh year month day numbers rows).month (fresh year month day numbers rows).day
      ≡ is_date year month day
  unfolding fresh
  fresh_date = refl

  pub valid_fresh : can_open year month day numbers rows ≡ true → ValidStore (fresh year month day numbers rows)
  valid_fresh e =
      let o = openable_parts (store_length (length numbers)) (as_long e) in
      record {
        date = fresh_date ∙ o.date;
        some = rw fresh_count o.some;
        few = rw fresh_count o.few;
        each = λ i l. each o i (rw fresh_count at l);
        ascending = λ i l. ascending o i (rw fresh_count at l);
      }
    where
      each : Openable (store_length (length numbers)) → (i : ℕ) → i < length numbers → ValidStation (station_at (fresh year month day numbers rows).stations i)
      each o i l =
          rw (fresh_station i l)
          (record {
            entry = entry_whole (record { least = o.least i l; most = o.most i l; row_most = o.row i l; settled_most = lit≤ tt });
            block = valid_empty;
          })

      ascending : Openable (store_length (length numbers)) → (i : ℕ) → suc i < length numbers
          → (station_at (fresh year month day numbers rows).stations i).number < (station_at (fresh year month day numbers rows).stations (suc i)).number
      ascending o i l = rw (fresh_station i (omega arith), fresh_station (suc i) l) (o.ascending i l)
