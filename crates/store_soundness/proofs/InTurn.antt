-- Laws of sound stations: the order in which the code makes the tests.
-- Assumes nothing.
use mathlib.Core.Path.{◌≡◌, refl, sym}
use mathlib.Core.Bool.{Bool, true, false, ◌&&◌, and_assoc}
use mathlib.Core.List.{List}
use Prim.Native.Nat.{ℕ, ◌+◌, ◌-◌}
use lib.Dec.{leb, ltb}
use Rattle.laws.specs.All.{all}
use Rattle.store_layout.specs.Layout.{word, long, entry_at, settled_in, block_at}
use Rattle.store_layout.specs.Sound.{sound_entry, sound_block, sound_station, sound_order}
use Rattle.store_layout.specs.Valid.{is_entry}
use Rattle.store_numbers.proofs.Ascending.{in_order, in_turn}

-- a station is sound, and its number is above the one before
abbrev pub station_in_order : List ℕ → ℕ → ℕ → Bool
station_in_order s n = in_order (λ i. long s (entry_at i)) (sound_station s n)

pub stations_in_turn : (s : List ℕ) (n : ℕ) → all (station_in_order s n) n ≡ (all (sound_station s n) n && all (sound_order s) (n - 1))
unfolding is_entry sound_station sound_order
stations_in_turn s n = in_turn (λ i. long s (entry_at i)) (sound_station s n) (repeated (leb 1 (long s (entry_at 0))) _ _ _ _) n
  where
    repeated : (a b c d e : Bool) → (a && (a && b && c && d && e)) ≡ (a && b && c && d && e)
    repeated true b c d e = refl
    repeated false b c d e = refl

-- the test of one station, above the number `last`: its entry's answer r, and its block's answer q
module _ (s : List ℕ) (n i last : ℕ) {r : Bool} (p : r ≡ (ltb last (long s (entry_at i)) && sound_entry s i)) where
  parted : (ltb last (long s (entry_at i)) && sound_station s n i) ≡ (r && sound_block (word s (entry_at i + settled_in)) s (block_at n i))
  unfolding sound_station
  parted = rw p (sym (and_assoc (ltb last (long s (entry_at i))) (sound_entry s i) _))

  pub entry_fails : r ≡ false → false ≡ (ltb last (long s (entry_at i)) && sound_station s n i)
  entry_fails t = rw (parted, t)

  pub entry_holds : r ≡ true → {q : Bool} → q ≡ sound_block (word s (entry_at i + settled_in)) s (block_at n i)
      → q ≡ (ltb last (long s (entry_at i)) && sound_station s n i)
  entry_holds t h = rw (parted, t) h
