-- A store's bytes, there and back.
--     length_store                       a store's length
--     header_in, entry_in, block_in      the header's bytes, and a station's records, in the store's
--     store_by_parts                     and from them the store's
--     decode_encode                      what is read of a valid store's bytes is the store
--     encode_decode                      the bytes of what is read of a framed buffer are the buffer
-- Assumes nothing.
use mathlib.Core.Path.{◌≡◌, refl, sym, ◌∙◌, ap}
use mathlib.Core.List.{List, ◌++◌}
use Prim.Native.Nat.{ℕ, ◌+◌, ◌*◌, ◌<◌, ◌≤◌}
use native.Mathlib.Omega.{arith}
use lib.ListN.{length, take, drop, length-append}
use lib.Seq.{take_all, take_at}
use Rattle.laws.specs.Table.{table}
use Rattle.laws.proofs.Tables.{get_d_table, is_table, length_table}
use Rattle.store_layout.specs.Model.{Station, Store, empty_station, station_at}
use Rattle.store_layout.specs.Valid.{ValidBlock, ValidStore}
use Rattle.store_layout.specs.Layout.{word, word_bytes, count_at, list_offset_at, block_offset_at, block_length_at, year_at, month_at, day_at, zero_at, header_length, entry_length, block_length, entry_at, row_in, settled_in, block_at, store_length, pieces, decode_block, encode_block, block_bytes, decode_station, decode, encode_entry, encode_header, encode}
use Rattle.store_layout.specs.Framed.{Bytes, Framed}
use Rattle.store_layout.proofs.Numbers.{word_of_bytes, long_of_bytes}
use Rattle.store_layout.proofs.Bytes.{bytes_part}
use Rattle.store_layout.proofs.Parts.{Same, length_part, part_left, part_right, joined, same_is, same_first, same_within}
use Rattle.store_layout.proofs.Pieces.{pieces_ext, pieces_at, pieces_parts, length_pieces}
use Rattle.store_layout.proofs.Read.{word_same, long_same, word_part, long_part}
use Rattle.store_layout.proofs.Blocks.{length_block, encode_decode_block, decode_encode_block}

-- ---- lengths
pub length_entry : (t : Station) → length (encode_entry t) ≡ entry_length
unfolding encode_entry
length_entry t = refl

pub length_header : (m : Store) → length (encode_header m) ≡ header_length
unfolding encode_header
length_header m = refl

module _ (m : Store) where
  entries : List ℕ
  entries = pieces (length m.stations) (λ i. encode_entry (station_at m.stations i))

  blocks : List ℕ
  blocks = pieces (length m.stations) (λ i. encode_block (station_at m.stations i).block)

  length_entries : length entries ≡ entry_length * length m.stations
  unfolding entries
  length_entries = length_pieces (length m.stations) entry_length (λ i. encode_entry (station_at m.stations i)) (λ i. length_entry _)

  length_blocks : length blocks ≡ block_length * length m.stations
  unfolding blocks
  length_blocks = length_pieces (length m.stations) block_length (λ i. encode_block (station_at m.stations i).block) (λ i. length_block _)

  laid : encode m ≡ encode_header m ++ (entries ++ blocks)
  unfolding encode entries blocks
  laid = refl

  pub length_store : length (encode m) ≡ store_length (length m.stations)
  length_store =
      ap length laid ∙ length-append (encode_header m) (entries ++ blocks)
      ∙ omega (arith, length_header m, length-append entries blocks, length_entries, length_blocks)

  -- ---- where things lie in a store's bytes
  pub header_in : take header_length (drop 0 (encode m)) ≡ encode_header m
  header_in = rw laid (take_at (encode_header m) (entries ++ blocks) header_length (length_header m))

  pub entry_in : (i : ℕ) → i < length m.stations → take entry_length (drop (entry_at i) (encode m)) ≡ encode_entry (station_at m.stations i)
  unfolding entries
  entry_in i l =
      rw laid
      (part_right entry_length (entry_length * i) header_length (encode_header m) (entries ++ blocks) (length_header m)
      ∙ part_left entry_length (entry_length * i) entries blocks (omega (arith, length_entries))
      ∙ pieces_at (length m.stations) entry_length (λ j. encode_entry (station_at m.stations j)) (λ j. length_entry _) i l)

  pub block_in : (i : ℕ) → i < length m.stations → block_bytes (encode m) (length m.stations) i ≡ encode_block (station_at m.stations i).block
  unfolding blocks
  block_in i l =
      let e : block_at (length m.stations) i ≡ header_length + (entry_length * length m.stations + block_length * i) = omega arith in
      rw (laid, e)
      (part_right block_length (entry_length * length m.stations + block_length * i) header_length (encode_header m) (entries ++ blocks) (length_header m)
      ∙ part_right block_length (block_length * i) (entry_length * length m.stations) entries blocks length_entries
      ∙ pieces_at (length m.stations) block_length (λ j. encode_block (station_at m.stations j).block) (λ j. length_block _) i l)

  -- the numbers of the header
  same_header : Same header_length (encode m) 0 (encode_header m) 0
  same_header = same_is header_in

  pub count_in : word (encode m) count_at ≡ length m.stations
  unfolding encode_header
  count_in = word_same (same_within 2 count_at same_header (omega arith)) ∙ word_of_bytes (length m.stations)

  pub framed_encode : 1 ≤ length m.stations → length m.stations ≤ 32 → Framed (encode m)
  unfolding encode_header
  framed_encode l k =
      record {
        some = rw count_in l;
        few = rw count_in k;
        long = rw count_in length_store;
        list_offset = word_same (same_within 2 list_offset_at same_header (omega arith)) ∙ word_of_bytes header_length;
        block_offset = rw count_in (word_same (same_within 2 block_offset_at same_header (omega arith)) ∙ word_of_bytes (block_at (length m.stations) 0));
        block_long = word_same (same_within 2 block_length_at same_header (omega arith)) ∙ word_of_bytes block_length;
        last = word_same (same_within 2 zero_at same_header (omega arith)) ∙ word_of_bytes 0;
      }

-- ---- what is read of a valid store's bytes is the store
-- a station is read where its records lie
pub station_from_parts : (s : List ℕ) (n i : ℕ) (t : Station) → take entry_length (drop (entry_at i) s) ≡ encode_entry t → block_bytes s n i ≡ encode_block t.block
    → ValidBlock t.settled t.block → decode_station s n i ≡ t
unfolding decode_station encode_entry
station_from_parts s n i t e b v =
    λ d.
    record {
      number = (long_same (same_first 4 same (omega arith)) ∙ long_of_bytes t.number) d;
      row = (word_same (same_within 2 row_in same (omega arith)) ∙ word_of_bytes t.row) d;
      settled = (word_same (same_within 2 settled_in same (omega arith)) ∙ word_of_bytes t.settled) d;
      block = (ap decode_block b ∙ decode_encode_block t.block v) d;
    }
  where
    same : Same entry_length s (entry_at i) (encode_entry t) 0
    same = same_is e

pub decode_encode : (m : Store) → ValidStore m → decode (encode m) ≡ m
unfolding decode encode_header
decode_encode m v =
    λ d.
    record {
      year = (word_same (same_within 2 year_at (same_header m) (omega arith)) ∙ word_of_bytes m.year) d;
      month = (word_same (same_within 2 month_at (same_header m) (omega arith)) ∙ word_of_bytes m.month) d;
      day = (word_same (same_within 2 day_at (same_header m) (omega arith)) ∙ word_of_bytes m.day) d;
      stations = stations d;
    }
  where
    at : (i : ℕ) → i < length m.stations → station_at m.stations i ≡ decode_station (encode m) (length m.stations) i
    at i l =
        sym
        (station_from_parts (encode m) (length m.stations) i (station_at m.stations i) (entry_in m i l) (block_in m i l)
        (v.each i l).block)

    stations : table (word (encode m) count_at) (decode_station (encode m) (word (encode m) count_at)) ≡ m.stations
    stations =
        rw (count_in m)
        (sym (is_table (length m.stations) (decode_station (encode m) (length m.stations)) m.stations empty_station refl at))

-- ---- a store's bytes, by its header, entries and blocks
pub record Stored (s : List ℕ) (m : Store) : Type 0 where
  pub long : length s ≡ store_length (length m.stations)
  pub header : take header_length (drop 0 s) ≡ encode_header m
  pub entries : (i : ℕ) → i < length m.stations → take entry_length (drop (entry_at i) s) ≡ encode_entry (station_at m.stations i)
  pub blocks : (i : ℕ) → i < length m.stations → block_bytes s (length m.stations) i ≡ encode_block (station_at m.stations i).block

pub store_by_parts : (s : List ℕ) (m : Store) → Stored s m → encode m ≡ s
unfolding encode
store_by_parts s m h =
    joined header_length (entry_length * length m.stations + block_length * length m.stations) 0 s (sym h.header)
    (joined (entry_length * length m.stations) (block_length * length m.stations) header_length s
    (pieces_ext (length m.stations) (λ i. encode_entry (station_at m.stations i)) (λ i. take entry_length (drop (entry_at i) s)) (λ i l. sym (h.entries i l))
    ∙ pieces_parts (length m.stations) entry_length header_length s)
    (pieces_ext (length m.stations) (λ i. encode_block (station_at m.stations i).block) (block_bytes s (length m.stations)) (λ i l. sym (h.blocks i l))
    ∙ pieces_parts (length m.stations) block_length (header_length + entry_length * length m.stations) s))
    ∙ take_all (header_length + (entry_length * length m.stations + block_length * length m.stations)) s (omega (arith, h.long))

-- ---- the stations that are read
pub stations_count : (s : List ℕ) → length (decode s).stations ≡ word s count_at
unfolding decode
stations_count s = length_table (word s count_at) (decode_station s (word s count_at))

pub station_of_bytes : (s : List ℕ) (i : ℕ) → i < word s count_at → station_at (decode s).stations i ≡ decode_station s (word s count_at) i
unfolding decode
station_of_bytes s i l = get_d_table (word s count_at) (decode_station s (word s count_at)) i empty_station l

-- ---- the bytes of what is read of a framed buffer are the buffer
module _ (s : List ℕ) (b : Bytes s) where
  encoded_entry : (n i : ℕ) → entry_at i + entry_length ≤ length s → encode_entry (decode_station s n i) ≡ take entry_length (drop (entry_at i) s)
  unfolding encode_entry decode_station
  encoded_entry n i h =
      joined 4 4 (entry_at i) s (long_part s b (entry_at i) (omega arith))
      (joined 2 2 (entry_at i + row_in) s (word_part s b (entry_at i + row_in) (omega arith))
      (word_part s b (entry_at i + settled_in) (omega arith) ∙ ap (λ (k : ℕ). take 2 (drop k s)) after))
    where
      after : entry_at i + settled_in ≡ entry_at i + row_in + 2
      after = omega arith

  encoded_block : (n i : ℕ) → block_at n i + block_length ≤ length s → encode_block (decode_station s n i).block ≡ block_bytes s n i
  unfolding decode_station
  encoded_block n i h = encode_decode_block (block_bytes s n i) (bytes_part block_length (block_at n i) b) (length_part block_length (block_at n i) s h)

  -- two bytes of the header, by the word that they make
  in_header : (i w : ℕ) → i + 2 ≤ length s → word s i ≡ w → word_bytes w ≡ take 2 (drop i s)
  in_header i w h e = ap word_bytes (sym e) ∙ word_part s b i h

  encoded_header : Framed s → encode_header (decode s) ≡ take header_length (drop 0 s)
  unfolding encode_header decode
  encoded_header f =
      joined 2 14 0 s (in_header count_at _ (omega (arith, f.long)) (sym (stations_count s)))
      (joined 2 12 2 s (in_header list_offset_at _ (omega (arith, f.long)) f.list_offset)
      (joined 2 10 4 s (in_header block_offset_at _ (omega (arith, f.long)) (f.block_offset ∙ ap (λ (n : ℕ). block_at n 0) (sym (stations_count s))))
      (joined 2 8 6 s (in_header block_length_at _ (omega (arith, f.long)) f.block_long)
      (joined 2 6 8 s (in_header year_at _ (omega (arith, f.long)) refl)
      (joined 2 4 10 s (in_header month_at _ (omega (arith, f.long)) refl)
      (joined 2 2 12 s (in_header day_at _ (omega (arith, f.long)) refl) (in_header zero_at _ (omega (arith, f.long)) f.last)))))))

  pub encode_decode : Framed s → encode (decode s) ≡ s
  encode_decode f =
      store_by_parts s (decode s)
      (record {
        long = rw (stations_count s) f.long;
        header = sym (encoded_header f);
        entries = λ i l. entry i (rw (stations_count s) at l);
        blocks = λ i l. rw (stations_count s) (block i (rw (stations_count s) at l));
      })
    where
      entry : (i : ℕ) → i < word s count_at → take entry_length (drop (entry_at i) s) ≡ encode_entry (station_at (decode s).stations i)
      entry i l = sym (ap encode_entry (station_of_bytes s i l) ∙ encoded_entry (word s count_at) i (omega (arith, f.long)))

      block : (i : ℕ) → i < word s count_at → block_bytes s (word s count_at) i ≡ encode_block (station_at (decode s).stations i).block
      block i l = sym (ap (λ (t : Station). encode_block t.block) (station_of_bytes s i l) ∙ encoded_block (word s count_at) i (omega (arith, f.long)))
