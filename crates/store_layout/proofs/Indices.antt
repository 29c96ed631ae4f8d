-- Where a station lies.
--     placed, index_found      an answer `index i` means: x stands at i, and nowhere before
--     absent, index_none       an answer `nowhere` means: x stands nowhere
--     index_ascending          in an ascending list x stands at one index
--     found, finds             the same of a store's stations
--     numbers_with             a station replaced by one of the same number leaves the search as it was
-- Assumes nothing.
use mathlib.Core.Path.{◌≡◌, refl, sym, ◌∙◌, ap, subst}
use mathlib.Core.Logic.{◌⊎◌, inl, inr}
use mathlib.Core.List.{List, [], ◌∷◌}
use Prim.Native.Nat.{ℕ, zero, suc, ◌<◌}
use native.Mathlib.Nat.{not-suc-le-zero, le_of_suc-le-suc, eq-or-lt_of_le}
use native.Mathlib.Omega.{arith}
use borrow.Author.Tests.{eqb-true, eqb-false, eq-eqb, ne_eqb}
use lib.Dec.{eqb}
use lib.ListN.{length, get_or, length-map, get_or-map}
use lib.Seq.{map-set_same, ext_get_or}
use Rattle.laws.proofs.Bools.{Known, is_true, is_false, known, cond_true, cond_false}
use Rattle.store_layout.specs.Model.{Station, Store, empty_station, station_at}
use Rattle.store_layout.specs.Valid.{ValidStore}
use Rattle.store_layout.specs.Layout.{word, long, count_at, entry_at, decode}
use Rattle.store_layout.specs.Index.{nowhere, index, next, index_in, numbers}
use Rattle.store_layout.specs.Updates.{with_station}
use Rattle.store_layout.specs.Opening.{fresh}
use Rattle.store_layout.proofs.Stores.{stations_count}
use Rattle.store_layout.proofs.Soundness.{number_at}
use Rattle.store_layout.proofs.Opened.{fresh_count, fresh_station}

-- ---- a list of numbers
-- x stands at i, and nowhere before
pub record Placed (xs : List ℕ) (x i : ℕ) : Type 0 where
  pub inside : i < length xs
  pub holds : get_or xs i 0 ≡ x
  pub first : (k : ℕ) → k < i → get_or xs k 0 ≡ x → ⊥

-- the two clauses of the search
index_here : (y : ℕ) (ys : List ℕ) (x : ℕ) → y ≡ x → index_in (y ∷ ys) x ≡ index 0
unfolding index_in
index_here y ys x e = cond_true _ _ _ (eq-eqb y x e)

index_on : (y : ℕ) (ys : List ℕ) (x : ℕ) → (y ≡ x → ⊥) → index_in (y ∷ ys) x ≡ next (index_in ys x)
unfolding index_in
index_on y ys x n = cond_false _ _ _ (ne_eqb y x n)

index_none_at : (x : ℕ) → index_in [] x ≡ nowhere
unfolding index_in
index_none_at x = refl

pub index_found : (xs : List ℕ) (x i : ℕ) → Placed xs x i → index_in xs x ≡ index i
index_found [] x i p = absurd (not-suc-le-zero p.inside)
index_found (y ∷ ys) x zero p = index_here y ys x p.holds
index_found (y ∷ ys) x (suc i) p =
    index_on y ys x (p.first zero (omega arith))
    ∙ ap next (index_found ys x i (record { inside = le_of_suc-le-suc p.inside; holds = p.holds; first = λ k l. p.first (suc k) (omega arith) }))

pub index_none : (xs : List ℕ) (x : ℕ) → ((k : ℕ) → k < length xs → get_or xs k 0 ≡ x → ⊥) → index_in xs x ≡ nowhere
index_none [] x h = index_none_at x
index_none (y ∷ ys) x h = index_on y ys x (h zero (omega arith)) ∙ ap next (index_none ys x (λ k l. h (suc k) (omega arith)))

-- it stands somewhere first, or nowhere
pub data Search (xs : List ℕ) (x : ℕ) : Type 0 where
  somewhere : (i : ℕ) → Placed xs x i → Search xs x
  missing : ((k : ℕ) → k < length xs → get_or xs k 0 ≡ x → ⊥) → Search xs x

pub search_in : (xs : List ℕ) (x : ℕ) → Search xs x
search_in [] x = missing (λ k l e. not-suc-le-zero l)
search_in (y ∷ ys) x = go (known (eqb y x)) (search_in ys x)
  where
    apart : (y ≡ x → ⊥) → ((k : ℕ) → k < length ys → get_or ys k 0 ≡ x → ⊥) → (k : ℕ) → k < length (y ∷ ys) → get_or (y ∷ ys) k 0 ≡ x → ⊥
    apart n h zero l e = n e
    apart n h (suc k) l e = h k (le_of_suc-le-suc l) e

    before : (i : ℕ) → (y ≡ x → ⊥) → ((k : ℕ) → k < i → get_or ys k 0 ≡ x → ⊥) → (k : ℕ) → k < suc i → get_or (y ∷ ys) k 0 ≡ x → ⊥
    before i n h zero l e = n e
    before i n h (suc k) l e = h k (le_of_suc-le-suc l) e

    go : Known (eqb y x) → Search ys x → Search (y ∷ ys) x
    go (is_true t) r = somewhere zero (record { inside = omega arith; holds = eqb-true y x t; first = λ k l e. not-suc-le-zero l })
    go (is_false f) (somewhere i p) =
        somewhere (suc i) (record { inside = omega (arith, p.inside); holds = p.holds; first = before i (eqb-false y x f) p.first })
    go (is_false f) (missing h) = missing (apart (eqb-false y x f) h)

pub placed : (xs : List ℕ) (x i : ℕ) → index_in xs x ≡ index i → Placed xs x i
placed xs x i e = go (search_in xs x)
  where
    go : Search xs x → Placed xs x i
    go (somewhere j p) = let q : j ≡ i = cc (index_found xs x j p) in subst (Placed xs x) q p
    go (missing h) = let z : ◌≡◌ {A = ℕ} 0 1 = cc (index_none xs x h) in absurd (omega arith)

pub absent : (xs : List ℕ) (x : ℕ) → index_in xs x ≡ nowhere → (k : ℕ) → k < length xs → get_or xs k 0 ≡ x → ⊥
absent xs x e = go (search_in xs x)
  where
    go : Search xs x → (k : ℕ) → k < length xs → get_or xs k 0 ≡ x → ⊥
    go (somewhere j p) = let z : ◌≡◌ {A = ℕ} 0 1 = cc (index_found xs x j p) in absurd (omega arith)
    go (missing h) = h

-- ---- an ascending list
module _ (xs : List ℕ) (up : (i : ℕ) → suc i < length xs → get_or xs i 0 < get_or xs (suc i) 0) where
  pub ascends : (j i : ℕ) → j < i → i < length xs → get_or xs j 0 < get_or xs i 0
  ascends j zero l m = absurd (not-suc-le-zero l)
  ascends j (suc i) l m = go (eq-or-lt_of_le (le_of_suc-le-suc l)) (λ b. ascends j i b (omega arith))
    where
      go : (j ≡ i) ⊎ (j < i) → (j < i → get_or xs j 0 < get_or xs i 0) → get_or xs j 0 < get_or xs (suc i) 0
      go (inl e) r = rw e (up i m)
      go (inr b) r = omega (arith, r b, up i m)

  pub index_ascending : (x i : ℕ) → i < length xs → get_or xs i 0 ≡ x → index_in xs x ≡ index i
  index_ascending x i l e =
      index_found xs x i (record { inside = l; holds = e; first = λ k b q. omega (arith, ascends k i b l) })

-- ---- a store's stations
pub numbers_count : (m : Store) → length (numbers m) ≡ length m.stations
numbers_count m = length-map m.stations (λ (t : Station). t.number)

pub number_of_index : (m : Store) (i : ℕ) → get_or (numbers m) i 0 ≡ (station_at m.stations i).number
number_of_index m i = get_or-map (λ (t : Station). t.number) m.stations i empty_station

-- the station at index i has the number x
pub record Found (m : Store) (x i : ℕ) : Type 0 where
  pub inside : i < length m.stations
  pub named : (station_at m.stations i).number ≡ x

pub found : (m : Store) (x i : ℕ) → index_in (numbers m) x ≡ index i → Found m x i
found m x i e =
    let p = placed (numbers m) x i e in
    record { inside = rw (numbers_count m) at p.inside; named = sym (number_of_index m i) ∙ p.holds }

pub finds : (m : Store) → ValidStore m → (x i : ℕ) → Found m x i → index_in (numbers m) x ≡ index i
finds m v x i p = index_ascending (numbers m) up x i (rw (numbers_count m) p.inside) (number_of_index m i ∙ p.named)
  where
    up : (j : ℕ) → suc j < length (numbers m) → get_or (numbers m) j 0 < get_or (numbers m) (suc j) 0
    up j l = rw (number_of_index m j, number_of_index m (suc j)) (v.ascending j (rw (numbers_count m) at l))

pub numbers_with : (i : ℕ) (t : Station) (m : Store) → t.number ≡ (station_at m.stations i).number → numbers (with_station i t m) ≡ numbers m
unfolding with_station
numbers_with i t m e = map-set_same (λ (u : Station). u.number) m.stations i t empty_station e

-- the numbers that are read, and those that a fresh store was opened with
pub numbers_read : (s : List ℕ) (i : ℕ) → i < word s count_at → get_or (numbers (decode s)) i 0 ≡ long s (entry_at i)
numbers_read s i l = number_of_index (decode s) i ∙ number_at s i l

pub numbers_read_count : (s : List ℕ) → length (numbers (decode s)) ≡ word s count_at
numbers_read_count s = numbers_count (decode s) ∙ stations_count s

pub numbers_fresh : (year month day : ℕ) (xs rows : List ℕ) → numbers (fresh year month day xs rows) ≡ xs
numbers_fresh year month day xs rows =
    ext_get_or 0 (numbers (fresh year month day xs rows)) xs long
    (λ i l. number_of_index (fresh year month day xs rows) i ∙ ap (λ (t : Station). t.number) (fresh_station year month day xs rows i (rw long at l)))
  where
    long : length (numbers (fresh year month day xs rows)) ≡ length xs
    long = numbers_count (fresh year month day xs rows) ∙ fresh_count year month day xs rows
