-- A station put in a store's place.
--     with_same, with_other      the stations of the store
--     with_count                 their number
--     with_with                  the last one put there counts
--     with_itself                one that stands there already
-- Assumes nothing.
use mathlib.Core.Path.{◌≡◌, refl, ap}
use mathlib.Core.List.{List, [], ◌∷◌}
use Prim.Native.Nat.{ℕ, zero, suc, ◌<◌}
use lib.ListN.{length, get_or, set, length-set}
use lib.Seq.{get_or-set_same, get_or-set_other, set-set}
use Rattle.store_layout.specs.Model.{Station, Store, empty_station, station_at}
use Rattle.store_layout.specs.Updates.{with_station}

module _ (i : ℕ) (t : Station) (m : Store) where
  pub with_count : length (with_station i t m).stations ≡ length m.stations
  unfolding with_station
  with_count = length-set m.stations i t

  pub with_same : i < length m.stations → station_at (with_station i t m).stations i ≡ t
  unfolding with_station
  with_same l = get_or-set_same m.stations i t empty_station l

  pub with_other : (j : ℕ) → (j ≡ i → ⊥) → station_at (with_station i t m).stations j ≡ station_at m.stations j
  unfolding with_station
  with_other j n = get_or-set_other m.stations i j t empty_station n

  pub with_with : (u : Station) → with_station i u (with_station i t m) ≡ with_station i u m
  unfolding with_station
  with_with u = λ d. record { year = m.year; month = m.month; day = m.day; stations = set-set m.stations i t u d }

pub with_itself : (i : ℕ) (m : Store) → with_station i (station_at m.stations i) m ≡ m
unfolding with_station
with_itself i m = λ d. record { year = m.year; month = m.month; day = m.day; stations = set_itself m.stations i d }
  where
    set_itself : (ts : List Station) (k : ℕ) → set ts k (get_or ts k empty_station) ≡ ts
    set_itself [] k = refl
    set_itself (t ∷ ts) zero = refl
    set_itself (t ∷ ts) (suc k) = ap (λ (us : List Station). t ∷ us) (set_itself ts k)
