-- A store known to be sound, and a station of it by its index.
--     framed, valid, headed            what is known of the store
--     at_index, valid_station, entry   of the station: what the functions on its entry ask, that it is valid, its entry's bounds
--     part_block                       its block, lent as store[a..b]
--     back_at_index, written           the block given back as ys: what the write of the settled number asks, and the store after it
--     known                            the numbers of a slice of bytes, as its type has them
-- Assumes nothing.
use mathlib.Core.Path.{◌≡◌, sym, ◌∙◌, ap, subst}
use mathlib.Core.List.{List, ◌++◌}
use Prim.Native.Nat.{ℕ, ◌+◌, ◌-◌, ◌<◌, ◌≤◌}
use native.Mathlib.Omega.{arith}
use mir.Syntax.{w8}
use mir.Val.{Fits}
use lib.ListN.{length, take, drop, get_or}
use lib.Seq.{sets}
use Rattle.store_layout.specs.Model.{Station, station_at}
use Rattle.store_layout.specs.Valid.{ValidStation, ValidStore}
use Rattle.store_layout.specs.Layout.{word, word_bytes, count_at, header_length, block_length, entry_at, settled_in, block_at, decode_block, decode_station, decode, encode}
use Rattle.store_layout.specs.Framed.{Bytes, Framed}
use Rattle.store_layout.specs.Updates.{with_block, with_station}
use Rattle.store_layout.proofs.Bytes.{bytes_part}
use Rattle.store_layout.proofs.Parts.{length_part}
use Rattle.store_layout.proofs.Stores.{stations_count, station_of_bytes}
use Rattle.store_layout.proofs.Soundness.{sound_framed, sound_valid}
use Rattle.store_layout.proofs.Validity.{EntryParts, entry_parts}
use Rattle.store_layout.proofs.Writes.{lent, part_inside}
use Rattle.store_layout.proofs.StationWrites.{write_station, framed_sets, count_kept}
use Rattle.store_numbers.specs.Marked.{Marked}
use Rattle.engine_answers.specs.Good.{Good, StationAt}

-- the part of s from a on that is lent, with the code's b
abbrev part : List ℕ → ℕ → List ℕ
part s a = take (a + block_length - a) (drop a s)

-- s with that part given back as ys
abbrev back : List ℕ → ℕ → List ℕ → List ℕ
back s a ys = take a s ++ (ys ++ drop (a + block_length - a) (drop a s))

pub known : {s : List ℕ} → ((k : ℕ) → Fits w8 (get_or s k 0)) → Bytes s
known h = record { each = λ k. omega (arith, h k) }

module _ {s : List ℕ} (g : Good s) where
  pub framed : Framed s
  framed = sound_framed s g.sound

  pub valid : ValidStore (decode s)
  valid = sound_valid s g.bytes g.sound

  -- the header is there
  pub headed : header_length ≤ length s
  headed = let l : length s ≡ block_at (word s count_at) (word s count_at) = framed.long in omega arith

module _ {s : List ℕ} {i : ℕ} (h : StationAt s i) where
  pub at_index : Framed s × (i < word s count_at)
  at_index = (framed h.good, h.there)

  pub valid_station : ValidStation (station_at (decode s).stations i)
  valid_station = (valid h.good).each i (subst (λ (n : ℕ). i < n) (sym (stations_count s)) h.there)

  pub entry : let t = station_at (decode s).stations i in EntryParts t.number t.row t.settled
  entry = entry_parts valid_station.entry

  -- the block begins at a
  module _ {a : ℕ} (p : a ≡ block_at (word s count_at) i) where
    width : a + block_length - a ≡ block_length
    width = omega arith

    inside : a + block_length ≤ length s
    inside = let e : length s ≡ block_at (word s count_at) (word s count_at) = (framed h.good).long in omega (arith, h.there)

    part_length : length (part s a) ≡ block_length
    part_length = subst (λ (n : ℕ). length (take n (drop a s)) ≡ block_length) (sym width) (length_part block_length a s inside)

    pub part_block : decode_block (part s a) ≡ (station_at (decode s).stations i).block
    unfolding decode_station
    part_block =
        ap (λ (n : ℕ). decode_block (take n (drop a s))) width ∙ ap (λ (k : ℕ). decode_block (take block_length (drop k s))) p
        ∙ sym (ap (λ (t : Station). t.block) (station_of_bytes s i h.there))

    -- what is given back is as long as what was lent
    module _ (ys : List ℕ) (e : length ys ≡ length (part s a)) where
      back_is : back s a ys ≡ sets s a ys
      back_is = lent s ys a (a + block_length) (omega arith) (let w = inside in omega arith) (e ∙ part_length ∙ sym width)

      pub back_at_index : Framed (back s a ys) × (i < word (back s a ys) count_at)
      back_at_index = rw back_is (framed_sets s ys a (omega arith) (framed h.good), rw (count_kept s ys a (omega arith)) h.there)

      pub written : {u : List ℕ} {v : ℕ} {t : Station} → Marked (back s a ys) i v u → v < 65536 → Bytes (back s a ys)
          → with_block (decode_block ys) v (station_at (decode s).stations i) ≡ t → u ≡ encode (with_station i t (decode s))
      written {u} {v} {t} m f k q =
          m.bytes ∙ ap (λ (u : List ℕ). sets u (entry_at i + settled_in) (word_bytes v)) (back_is ∙ ap (λ (j : ℕ). sets s j ys) p)
          ∙ write_station s (framed h.good) i h.there ys (e ∙ part_length) v h.good.bytes within f ∙ ap (λ (t : Station). encode (with_station i t (decode s))) q
        where
          within : Bytes ys
          within = subst Bytes (ap (λ (u : List ℕ). take (length ys) (drop a u)) back_is ∙ part_inside ys s a room) (bytes_part (length ys) a k)
            where
              room : a + length ys ≤ length s
              room = let z = inside in let w = e ∙ part_length in omega arith
