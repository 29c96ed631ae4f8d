-- What suffices to read a buffer as a store and to write it back byte for byte: its length and its header.
-- The laws of reading and writing rest on this alone, so that they serve while a store is being written.
-- Assumes nothing.
use Rattle.std.specs.Prelude.{◌≡◌, List, ℕ, ◌≤◌, ◌<◌, length}
use Rattle.store_layout.specs.Layout.{byte, word, count_at, list_offset_at, block_offset_at, block_length_at, zero_at, header_length, block_length, block_at, store_length}

-- the list of a slice of bytes: each of its numbers is below 256
pub record Bytes (s : List ℕ) : Type 0 where
  pub each : (k : ℕ) → byte s k < 256

-- a sound header, but for the date
pub record Framed (s : List ℕ) : Type 0 where
  pub some : 1 ≤ word s count_at
  pub few : word s count_at ≤ 32
  pub long : length s ≡ store_length (word s count_at)
  pub list_offset : word s list_offset_at ≡ header_length
  pub block_offset : word s block_offset_at ≡ block_at (word s count_at) 0
  pub block_long : word s block_length_at ≡ block_length
  pub last : word s zero_at ≡ 0
