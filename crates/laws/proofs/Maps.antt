-- Lists under a function.
--     map_set      one entry stored
--     map_table    a table
--     map_at       an entry, whatever is given past the end
-- Assumes nothing.
use mathlib.Core.Path.{◌≡◌, refl, ap}
use mathlib.Core.List.{List, [], ◌∷◌, map}
use Prim.Native.Nat.{ℕ, zero, suc, ◌<◌}
use native.Mathlib.Nat.{not-suc-le-zero, le_of_suc-le-suc}
use lib.ListN.{length, get_or, set}
use Rattle.laws.specs.Table.{table}

module _ {A B : Type 0} (f : A → B) where
  pub map_set : (l : List A) (i : ℕ) (y : A) → map f (set l i y) ≡ set (map f l) i (f y)
  map_set [] i y = refl
  map_set (x ∷ xs) zero y = refl
  map_set (x ∷ xs) (suc i) y = ap (λ (zs : List B). f x ∷ zs) (map_set xs i y)

  pub map_table : (n : ℕ) (g : ℕ → A) → map f (table n g) ≡ table n (λ k. f (g k))
  unfolding table
  map_table zero g = refl
  map_table (suc n) g = ap (λ (zs : List B). f (g zero) ∷ zs) (map_table n (λ k. g (suc k)))

  pub map_at : (l : List A) (k : ℕ) (d : A) (d' : B) → k < length l → get_or (map f l) k d' ≡ f (get_or l k d)
  map_at [] k d d' h = absurd (not-suc-le-zero h)
  map_at (x ∷ xs) zero d d' h = refl
  map_at (x ∷ xs) (suc k) d d' h = map_at xs k d d' (le_of_suc-le-suc h)
