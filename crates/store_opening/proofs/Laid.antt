-- The bytes of a fresh store, as the code lays them.
-- Assumes nothing.
use mathlib.Core.Path.{◌≡◌, refl, sym, ◌∙◌, ap}
use mathlib.Core.List.{List, [], ◌∷◌, ◌++◌}
use Prim.Native.Nat.{ℕ, ◌+◌, ◌*◌}
use native.Mathlib.Omega.{arith}
use lib.ListN.{length, get_or, replicate}
use lib.Seq.{sets}
use Rattle.laws.specs.Table.{table}
use Rattle.laws.proofs.Tables.{length_table}
use Rattle.store_layout.specs.Model.{Station, station_at, unfiled, empty_block}
use Rattle.store_layout.specs.Layout.{header_length, entry_length, block_length, sheet_length, block_at, store_length, word_bytes, long_bytes, pieces, encode_head, encode_cell, encode_sheet, encode_block, encode_entry, encode_header, encode}
use Rattle.store_layout.specs.Opening.{fresh}
use Rattle.store_layout.proofs.Opened.{fresh_count, fresh_station}
use Rattle.store_layout.proofs.Pieces.{pieces_ext, length_pieces}
use Rattle.store_layout.proofs.Stores.{length_store}
use Rattle.store_numbers.proofs.Laying.{run, sets_all}

-- an empty block: nine unfiled heads, and zeros
pub empty_bytes : pieces 9 (λ k. encode_head unfiled) ++ replicate (sheet_length + sheet_length) 0 ≡ encode_block empty_block
unfolding table pieces encode_head encode_cell encode_sheet encode_block
empty_bytes = refl

-- ---- the bytes of a fresh store, one part after the other
module _ (year month day : ℕ) (numbers rows : List ℕ) where
  -- the eight words of the header
  abbrev pub header_words : List ℕ
  header_words = length numbers ∷ header_length ∷ block_at (length numbers) 0 ∷ block_length ∷ year ∷ month ∷ day ∷ 0 ∷ []

  abbrev pub header_part : List ℕ
  header_part = pieces 8 (λ k. word_bytes (get_or header_words k 0))

  abbrev pub entry_part : List ℕ
  entry_part = pieces (length numbers) (λ i. long_bytes (get_or numbers i 0) ++ (word_bytes (get_or rows i 0) ++ word_bytes 0))

  abbrev pub block_part : List ℕ
  block_part = pieces (length numbers) (λ i. encode_block empty_block)

  header_laid : header_part ≡ encode_header (fresh year month day numbers rows)
  unfolding pieces encode_header fresh
  header_laid = rw length_table

  entries_laid : entry_part ≡ pieces (length numbers) (λ i. encode_entry (station_at (fresh year month day numbers rows).stations i))
  unfolding encode_entry
  entries_laid = pieces_ext (length numbers) _ _ (λ i l. ap encode_entry (sym (fresh_station year month day numbers rows i l)))

  blocks_laid : block_part ≡ pieces (length numbers) (λ i. encode_block (station_at (fresh year month day numbers rows).stations i).block)
  blocks_laid = pieces_ext (length numbers) _ _ (λ i l. ap (λ (t : Station). encode_block t.block) (sym (fresh_station year month day numbers rows i l)))

  fresh_laid : header_part ++ (entry_part ++ block_part) ≡ encode (fresh year month day numbers rows)
  unfolding encode
  fresh_laid = rw (header_laid, entries_laid, blocks_laid, fresh_count year month day numbers rows)

  -- the three parts laid in a buffer of a store's length
  pub fresh_written : (s t u v : List ℕ) → length s ≡ store_length (length numbers) → t ≡ sets s 0 header_part → u ≡ sets t header_length entry_part
      → v ≡ sets u (block_at (length numbers) 0) block_part → v ≡ encode (fresh year month day numbers rows)
  unfolding pieces
  fresh_written s t u v l a b c =
      run s header_part (entry_part ++ block_part) 0 header_length a refl
      (run t entry_part block_part header_length (block_at (length numbers) 0) b (omega (arith, entries_long)) c)
      ∙ ap (sets s 0) fresh_laid
      ∙ sets_all (encode (fresh year month day numbers rows)) s (length_store (fresh year month day numbers rows) ∙ rw (fresh_count year month day numbers rows) (sym l))
    where
      entries_long : length entry_part ≡ entry_length * length numbers
      entries_long = length_pieces (length numbers) entry_length (λ i. long_bytes (get_or numbers i 0) ++ (word_bytes (get_or rows i 0) ++ word_bytes 0)) (λ i. refl)
