-- A store known to be sound, and a station of it by its index, as the functions below the calls are given them.
-- Assumes nothing.
use Rattle.std.specs.Prelude.{List, ℕ, ◌<◌}
use Rattle.store_layout.specs.Form.{ours, SoundIn}
use Rattle.store_layout.specs.Layout.{word, count_at}

abbrev pub Good : List ℕ → Type 0
Good s = SoundIn ours s

-- the store s is sound, and has a station at the index i
pub record StationAt (s : List ℕ) (i : ℕ) : Type 0 where
  pub good : Good s
  pub there : i < word s count_at
