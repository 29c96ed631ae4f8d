-- The settled number of a station, written.
-- Assumes nothing.
use Rattle.std.specs.Prelude.{◌≡◌, List, ℕ, ◌+◌}
use Rattle.std.proofs.lemmas.List.Edits.{sets}
use Rattle.store_layout.specs.Model.{station_at}
use Rattle.store_layout.specs.Layout.{word_bytes, entry_at, settled_in, decode}
use Rattle.store_layout.specs.Updates.{with_block, with_station}

-- "settled (16 bits, ..)": the store s with the number v at index i is t: on the model, nothing else differs; and these two bytes alone were written
pub record Marked (s : List ℕ) (i v : ℕ) (t : List ℕ) : Type 0 where
  pub model : decode t ≡ with_station i (with_block (station_at (decode s).stations i).block v (station_at (decode s).stations i)) (decode s)
  pub bytes : t ≡ sets s (entry_at i + settled_in) (word_bytes v)
