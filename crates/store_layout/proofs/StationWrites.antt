-- Writing a station's records: its block, and its settled mark. The header and every other station stay.
--     framed_sets        a write behind the header keeps a framed buffer framed
--     Apart              a stretch that touches one station alone
--     decode_sets        what is read after a write there
--     decode_block_write, decode_mark_write      the block, the mark
--     write_station      both, as bytes of the model
-- Assumes nothing.
use mathlib.Core.Path.{◌≡◌, refl, sym, ◌∙◌, ap, subst}
use mathlib.Core.List.{List}
use Prim.Native.Nat.{ℕ, ◌+◌, ◌<◌, ◌≤◌}
use native.Mathlib.Nat.{add-zero}
use native.Mathlib.Omega.{arith}
use lib.ListN.{length, set}
use lib.Seq.{sets, length-sets}
use Rattle.laws.specs.Table.{table}
use Rattle.store_layout.specs.Model.{Station, Store, station_at}
use Rattle.store_layout.specs.Layout.{word, word_bytes, count_at, year_at, month_at, day_at, zero_at, list_offset_at, block_offset_at, block_length_at, header_length, entry_length, block_length, entry_at, row_in, settled_in, block_at, decode_block, block_bytes, decode_station, decode, encode}
use Rattle.store_layout.specs.Framed.{Bytes, Framed}
use Rattle.store_layout.specs.Updates.{with_block, with_station}
use Rattle.store_layout.proofs.TableSet.{table_set}
use Rattle.store_layout.proofs.Numbers.{word_of_bytes}
use Rattle.store_layout.proofs.Bytes.{bytes_of_word, bytes_sets}
use Rattle.store_layout.proofs.Parts.{Same, part_same, same_is, same_first, same_within}
use Rattle.store_layout.proofs.Read.{word_same, long_same}
use Rattle.store_layout.proofs.Writes.{Outside, same_outside, word_outside, part_inside}
use Rattle.store_layout.proofs.Models.{with_same, with_with}
use Rattle.store_layout.proofs.Stores.{stations_count, station_of_bytes, encode_decode}

-- ---- the header stays
module _ (s vs : List ℕ) (at : ℕ) (l : header_length ≤ at) where
  pub word_kept : (i : ℕ) → i + 2 ≤ header_length → word (sets s at vs) i ≡ word s i
  word_kept i h = word_outside i at vs s (λ k b p q. omega arith)

  pub count_kept : word (sets s at vs) count_at ≡ word s count_at
  count_kept = word_kept count_at (omega arith)

  pub framed_sets : Framed s → Framed (sets s at vs)
  framed_sets f =
      record {
        some = rw count_kept f.some;
        few = rw count_kept f.few;
        long = rw count_kept (length-sets s at vs ∙ f.long);
        list_offset = word_kept list_offset_at (omega arith) ∙ f.list_offset;
        block_offset = rw count_kept (word_kept block_offset_at (omega arith) ∙ f.block_offset);
        block_long = word_kept block_length_at (omega arith) ∙ f.block_long;
        last = word_kept zero_at (omega arith) ∙ f.last;
      }

-- ---- a stretch of `size` bytes from `at` on that lies in the records of station i, of n, alone
pub record Apart (n i at size : ℕ) : Type 0 where
  pub header : header_length ≤ at
  pub entries : (j k : ℕ) → j < n → (j ≡ i → ⊥) → k < entry_length → Outside at size (entry_at j + k)
  pub blocks : (j k : ℕ) → j < n → (j ≡ i → ⊥) → k < block_length → Outside at size (block_at n j + k)

-- in the block, and in the entry, of station i
pub apart_block : (n i d size : ℕ) → i < n → d + size ≤ block_length → Apart n i (block_at n i + d) size
apart_block n i d size l h =
    record {
      header = omega arith;
      entries = λ j k b e q p r. omega arith;
      blocks = λ j k b e q p r. omega (arith, e);
    }

pub apart_entry : (n i d size : ℕ) → i < n → d + size ≤ entry_length → Apart n i (entry_at i + d) size
apart_entry n i d size l h =
    record {
      header = omega arith;
      entries = λ j k b e q p r. omega (arith, e);
      blocks = λ j k b e q p r. omega arith;
    }

-- ---- what is read after a write in one station's records
-- a station is read alike where its records are alike
station_same : (s t : List ℕ) (n j : ℕ) → Same entry_length s (entry_at j) t (entry_at j) → block_bytes s n j ≡ block_bytes t n j → decode_station s n j ≡ decode_station t n j
unfolding decode_station
station_same s t n j h e =
    λ d.
    record {
      number = long_same (same_first 4 h (omega arith)) d;
      row = word_same (same_within 2 row_in h (omega arith)) d;
      settled = word_same (same_within 2 settled_in h (omega arith)) d;
      block = decode_block (e d);
    }

module _ (s : List ℕ) (f : Framed s) (i : ℕ) (l : i < word s count_at) where
  block_within : (t : List ℕ) (j : ℕ) → length t ≡ length s → j < word s count_at → block_at (word s count_at) j + block_length ≤ length t
  block_within t j e b = omega (arith, f.long)

  -- the same bytes of a block, before and after
  block_kept : (t : List ℕ) (j : ℕ) → length t ≡ length s → j < word s count_at
      → Same block_length t (block_at (word s count_at) j) s (block_at (word s count_at) j) → block_bytes t (word s count_at) j ≡ block_bytes s (word s count_at) j
  block_kept t j e b h = part_same h (block_within t j e b) (block_within s j refl b)

  pub decode_sets : (at : ℕ) (vs : List ℕ) → Apart (word s count_at) i at (length vs)
      → decode (sets s at vs) ≡ with_station i (decode_station (sets s at vs) (word s count_at) i) (decode s)
  unfolding decode with_station
  decode_sets at vs a =
      λ d.
      record {
        year = word_kept s vs at a.header year_at (omega arith) d;
        month = word_kept s vs at a.header month_at (omega arith) d;
        day = word_kept s vs at a.header day_at (omega arith) d;
        stations = stations d;
      }
    where
      other : (j : ℕ) → j < word s count_at → (j ≡ i → ⊥) → decode_station (sets s at vs) (word s count_at) j ≡ decode_station s (word s count_at) j
      other j b e =
          station_same (sets s at vs) s (word s count_at) j
          (same_outside entry_length (entry_at j) at vs s (λ k q. a.entries j k b e q))
          (block_kept (sets s at vs) j (length-sets s at vs) b
          (same_outside block_length (block_at (word s count_at) j) at vs s (λ k q. a.blocks j k b e q)))

      stations : table (word (sets s at vs) count_at) (decode_station (sets s at vs) (word (sets s at vs) count_at))
          ≡ set (table (word s count_at) (decode_station s (word s count_at))) i (decode_station (sets s at vs) (word s count_at) i)
      stations =
          rw (count_kept s vs at a.header)
          (table_set (word s count_at) (decode_station s (word s count_at)) (decode_station (sets s at vs) (word s count_at)) i l other)

  -- ---- the block written
  pub apart_whole : Apart (word s count_at) i (block_at (word s count_at) i) block_length
  apart_whole = rw add-zero at (apart_block (word s count_at) i 0 block_length l (omega arith))

  pub decode_block_write : (bs : List ℕ) → length bs ≡ block_length
      → decode (sets s (block_at (word s count_at) i) bs)
      ≡ with_station i
      (with_block (decode_block bs) (station_at (decode s).stations i).settled (station_at (decode s).stations i))
      (decode s)
  unfolding with_block decode_station
  decode_block_write bs e =
      decode_sets (block_at (word s count_at) i) bs (subst (λ (n : ℕ). Apart (word s count_at) i (block_at (word s count_at) i) n) (sym e) apart_whole)
      ∙ ap (λ (t : Station). with_station i t (decode s)) (written ∙ ap (λ (t : Station). with_block (decode_block bs) t.settled t) (sym (station_of_bytes s i l)))
    where
      entry : Same entry_length (sets s (block_at (word s count_at) i) bs) (entry_at i) s (entry_at i)
      entry = same_outside entry_length (entry_at i) (block_at (word s count_at) i) bs s (λ k b p q. omega arith)

      bytes : block_bytes (sets s (block_at (word s count_at) i) bs) (word s count_at) i ≡ bs
      bytes = rw e at (part_inside bs s (block_at (word s count_at) i) (omega (arith, f.long)))

      written : decode_station (sets s (block_at (word s count_at) i) bs) (word s count_at) i
          ≡ with_block (decode_block bs) (decode_station s (word s count_at) i).settled (decode_station s (word s count_at) i)
      written =
          λ d.
          record {
            number = long_same (same_first 4 entry (omega arith)) d;
            row = word_same (same_within 2 row_in entry (omega arith)) d;
            settled = word_same (same_within 2 settled_in entry (omega arith)) d;
            block = decode_block (bytes d);
          }

  -- ---- the settled mark written
  pub decode_mark_write : (v : ℕ)
      → decode (sets s (entry_at i + settled_in) (word_bytes v))
      ≡ with_station i (with_block (station_at (decode s).stations i).block v (station_at (decode s).stations i)) (decode s)
  unfolding with_block decode_station
  decode_mark_write v =
      decode_sets (entry_at i + settled_in) (word_bytes v) (apart_entry (word s count_at) i settled_in 2 l (omega arith))
      ∙ ap (λ (t : Station). with_station i t (decode s)) (written ∙ ap (λ (t : Station). with_block t.block v t) (sym (station_of_bytes s i l)))
    where
      ahead : Same settled_in (sets s (entry_at i + settled_in) (word_bytes v)) (entry_at i) s (entry_at i)
      ahead = same_outside settled_in (entry_at i) (entry_at i + settled_in) (word_bytes v) s (λ k b p q. omega arith)

      mark : Same 2 (sets s (entry_at i + settled_in) (word_bytes v)) (entry_at i + settled_in) (word_bytes v) 0
      mark = same_is (part_inside (word_bytes v) s (entry_at i + settled_in) (omega (arith, f.long)))

      bytes : block_bytes (sets s (entry_at i + settled_in) (word_bytes v)) (word s count_at) i ≡ block_bytes s (word s count_at) i
      bytes =
          block_kept (sets s (entry_at i + settled_in) (word_bytes v)) i (length-sets s (entry_at i + settled_in) (word_bytes v)) l
          (same_outside block_length (block_at (word s count_at) i) (entry_at i + settled_in) (word_bytes v) s (λ k b p q. omega arith))

      written : decode_station (sets s (entry_at i + settled_in) (word_bytes v)) (word s count_at) i
          ≡ with_block (decode_station s (word s count_at) i).block v (decode_station s (word s count_at) i)
      written =
          λ d.
          record {
            number = long_same (same_first 4 ahead (omega arith)) d;
            row = word_same (same_within 2 row_in ahead (omega arith)) d;
            settled = (word_same mark ∙ word_of_bytes v) d;
            block = decode_block (bytes d);
          }

-- ---- both written
-- a rule on the station that was put there last
again : (i : ℕ) (t : Station) (m : Store) (g : Station → Station) → i < length m.stations
    → with_station i (g (station_at (with_station i t m).stations i)) (with_station i t m) ≡ with_station i (g t) m
again i t m g l =
    with_with i t m (g (station_at (with_station i t m).stations i)) ∙ ap (λ (u : Station). with_station i (g u) m) (with_same i t m l)

module _ (s : List ℕ) (f : Framed s) (i : ℕ) (l : i < word s count_at) (bs : List ℕ) (e : length bs ≡ block_length) (v : ℕ) where
  -- the block, then the mark
  pub decode_station_write : decode (sets (sets s (block_at (word s count_at) i) bs) (entry_at i + settled_in) (word_bytes v))
      ≡ with_station i (with_block (decode_block bs) v (station_at (decode s).stations i)) (decode s)
  unfolding with_block
  decode_station_write =
      decode_mark_write (sets s (block_at (word s count_at) i) bs) (framed_sets s bs (block_at (word s count_at) i) (omega arith) f) i
      (rw (count_kept s bs (block_at (word s count_at) i) (omega arith)) l) v
      ∙ rw (decode_block_write s f i l bs e)
      (again i (with_block (decode_block bs) (station_at (decode s).stations i).settled (station_at (decode s).stations i)) (decode s)
      (λ t. with_block t.block v t) (rw (stations_count s) l))

  -- as bytes
  pub write_station : Bytes s → Bytes bs → v < 65536
      → sets (sets s (block_at (word s count_at) i) bs) (entry_at i + settled_in) (word_bytes v)
      ≡ encode (with_station i (with_block (decode_block bs) v (station_at (decode s).stations i)) (decode s))
  write_station b c h =
      sym
      (encode_decode (sets (sets s (block_at (word s count_at) i) bs) (entry_at i + settled_in) (word_bytes v))
      (bytes_sets (entry_at i + settled_in) (bytes_sets (block_at (word s count_at) i) b c) (bytes_of_word v h))
      (framed_sets (sets s (block_at (word s count_at) i) bs) (word_bytes v) (entry_at i + settled_in) (omega arith)
      (framed_sets s bs (block_at (word s count_at) i) (omega arith) f)))
      ∙ ap encode decode_station_write
