-- A buffer is sound exactly if it is framed and what is read of it is a valid store; so the sound
-- buffers are the bytes of the valid stores (`ValidBytes` has the other direction).
--     header_parts, header_whole     what the test of a header asks
--     sound_framed, sound_valid      what a sound buffer is
--     valid_sound                    a framed buffer with a valid store in it is sound
--     sound_encoded                  a sound buffer is the bytes of what is read of it
-- Assumes nothing.
use mathlib.Core.Path.{◌≡◌, refl, sym, ◌∙◌, ap}
use mathlib.Core.Bool.{true}
use mathlib.Core.List.{List}
use Prim.Native.Nat.{ℕ, suc, ◌-◌, ◌<◌}
use native.Mathlib.Omega.{arith}
use borrow.Author.Tests.{leb-true, le-leb, ltb-true, lt-ltb, eqb-true, eq-eqb}
use Rattle.laws.specs.All.{all}
use Rattle.laws.proofs.Bools.{both, seven, and_true}
use Rattle.laws.proofs.Tables.{all_at, all_from}
use Rattle.calendar.specs.Dates.{is_date}
use Rattle.store_layout.specs.Model.{Station, station_at}
use Rattle.store_layout.specs.Valid.{ValidStation, ValidStore}
use Rattle.store_layout.specs.Layout.{word, long, count_at, year_at, month_at, day_at, entry_at, block_at, decode_station, decode, encode}
use Rattle.store_layout.specs.Framed.{Bytes, Framed}
use Rattle.store_layout.specs.Sound.{sound_station, sound_order, sound_header, sound}
use Rattle.store_layout.proofs.SoundBlocks.{block_valid, valid_block}
use Rattle.store_layout.proofs.Stores.{stations_count, station_of_bytes, encode_decode}

-- ---- the header
module _ (s : List ℕ) where
  -- its test, taken apart and put together
  pub record Header : Type 0 where
    pub framed : Framed s
    pub date : is_date (word s year_at) (word s month_at) (word s day_at) ≡ true

  pub header_parts : sound_header s ≡ true → Header
  unfolding sound_header
  header_parts e =
      let h = both e in
      let p = seven h.0 in
      record {
        framed =
            record {
              some = leb-true _ _ p.0;
              few = leb-true _ _ p.1;
              long = eqb-true _ _ p.2;
              list_offset = eqb-true _ _ p.3;
              block_offset = eqb-true _ _ p.4;
              block_long = eqb-true _ _ p.5;
              last = eqb-true _ _ h.1;
            };
        date = p.6;
      }

  pub header_whole : Header → sound_header s ≡ true
  unfolding sound_header
  header_whole h =
      let f = h.framed in
      rw (
        le-leb _ _ f.some,
        le-leb _ _ f.few,
        eq-eqb _ _ f.long,
        eq-eqb _ _ f.list_offset,
        eq-eqb _ _ f.block_offset,
        eq-eqb _ _ f.block_long,
        h.date,
        eq-eqb _ _ f.last,
      )

  -- ---- a station
  station_valid : (n i : ℕ) → sound_station s n i ≡ true → ValidStation (decode_station s n i)
  unfolding sound_station decode_station
  station_valid n i e = let p = both e in record { entry = p.0; block = block_valid s (block_at n i) _ p.1 }

  valid_station : (n i : ℕ) → ValidStation (decode_station s n i) → sound_station s n i ≡ true
  unfolding sound_station decode_station
  valid_station n i v = and_true _ _ v.entry (valid_block s (block_at n i) _ v.block)

  -- its number
  pub number_at : (i : ℕ) → i < word s count_at → (station_at (decode s).stations i).number ≡ long s (entry_at i)
  unfolding decode_station
  number_at i l = ap (λ (t : Station). t.number) (station_of_bytes s i l)

  order_valid : (i : ℕ) → suc i < word s count_at → sound_order s i ≡ true
      → (station_at (decode s).stations i).number < (station_at (decode s).stations (suc i)).number
  unfolding sound_order
  order_valid i l e = rw (number_at i (omega arith), number_at (suc i) l) (ltb-true _ _ e)

  valid_order : (i : ℕ) → suc i < word s count_at → (station_at (decode s).stations i).number < (station_at (decode s).stations (suc i)).number
      → sound_order s i ≡ true
  unfolding sound_order
  valid_order i l h = lt-ltb _ _ (rw (number_at i (omega arith), number_at (suc i) l) at h)

  -- ---- the store
  -- its test, taken apart
  pub record Sound : Type 0 where
    pub header : sound_header s ≡ true
    pub stations : all (sound_station s (word s count_at)) (word s count_at) ≡ true
    pub orders : all (sound_order s) (word s count_at - 1) ≡ true

  pub sound_parts : sound s ≡ true → Sound
  unfolding sound
  sound_parts e =
      let p = both e in
      let q = both p.0 in
      record { header = q.0; stations = q.1; orders = p.1 }

  pub sound_framed : sound s ≡ true → Framed s
  sound_framed e = (header_parts (sound_parts e).header).framed

  date_read : is_date (word s year_at) (word s month_at) (word s day_at) ≡ is_date (decode s).year (decode s).month (decode s).day
  unfolding decode
  date_read = refl

  pub sound_valid : Bytes s → sound s ≡ true → ValidStore (decode s)
  sound_valid b e =
      let p = sound_parts e in
      let h = header_parts p.header in
      record {
        date = sym date_read ∙ h.date;
        some = rw (stations_count s) h.framed.some;
        few = rw (stations_count s) h.framed.few;
        each = λ i l. each p i (rw (stations_count s) at l);
        ascending = λ i l. ascending p i (rw (stations_count s) at l);
      }
    where
      each : Sound → (i : ℕ) → i < word s count_at → ValidStation (station_at (decode s).stations i)
      each p i l = rw (station_of_bytes s i l) (station_valid (word s count_at) i (all_at (sound_station s (word s count_at)) (word s count_at) p.stations i l))

      ascending : Sound → (i : ℕ) → suc i < word s count_at → (station_at (decode s).stations i).number < (station_at (decode s).stations (suc i)).number
      ascending p i l = order_valid i l (all_at (sound_order s) (word s count_at - 1) p.orders i (omega arith))

  pub valid_sound : Bytes s → Framed s → ValidStore (decode s) → sound s ≡ true
  unfolding sound
  valid_sound b f v =
      rw (
        header_whole (record { framed = f; date = date_read ∙ v.date }),
        all_from (sound_station s (word s count_at)) (word s count_at) (λ i l. valid_station (word s count_at) i (each i l)),
        all_from (sound_order s) (word s count_at - 1) (λ i l. valid_order i (omega arith) (v.ascending i (rw (stations_count s) (omega arith)))),
      )
    where
      each : (i : ℕ) → i < word s count_at → ValidStation (decode_station s (word s count_at) i)
      each i l = rw (station_of_bytes s i l) at (v.each i (rw (stations_count s) l))

  -- so a sound buffer is the bytes of the valid store that is read of it
  pub sound_encoded : Bytes s → sound s ≡ true → encode (decode s) ≡ s
  sound_encoded b e = encode_decode s b (sound_framed e)
