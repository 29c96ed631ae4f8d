-- What an answer of `locate`, or of `find`, tells.
-- Assumes nothing.
use mathlib.Core.Path.{◌≡◌, refl, subst}
use mathlib.Core.Bool.{Bool, true, false, cond}
use mathlib.Core.List.{List}
use Prim.Native.Nat.{ℕ, ◌<◌}
use Rattle.std.specs.Prelude.{Ok, Err, ok_or}
use Rattle.refusals.specs.declared.Refusal.{Refusal}
use Rattle.refusals.specs.declared.Refusal.TheVariants.{Unsound, UnknownStation}
use Rattle.store_layout.specs.Layout.{word, count_at, decode}
use Rattle.store_layout.specs.Index.{Index, nowhere, index, index_in, numbers}
use Rattle.store_layout.specs.Sound.{sound}
use Rattle.store_layout.proofs.Indices.{found}
use Rattle.store_layout.proofs.Stores.{stations_count}
use Rattle.store_soundness.specs.Located.{placed, located}

-- the code's answer tells the index
pub placed_same : (p q : Index) → placed p ≡ placed q → p ≡ q
placed_same nowhere nowhere e = refl
placed_same nowhere (index j) e = cc
placed_same (index i) nowhere e = cc
placed_same (index i) (index j) e = cc

module _ (s : List ℕ) (x : ℕ) where
  -- an index is one of the store's
  pub within : (i : ℕ) → index_in (numbers (decode s)) x ≡ index i → i < word s count_at
  within i e = rw (stations_count s) at (found (decode s) x i e).inside

  -- the search in a sound store
  pub record Searched (p : Index) : Type 0 where
    pub sound_store : sound s ≡ true
    pub answer : index_in (numbers (decode s)) x ≡ p

  -- why no index was answered
  pub data Missing : Refusal → Type 0 where
    unsound : sound s ≡ false → Missing Unsound
    absent : Searched nowhere → Missing UnknownStation

  searched_by : {i : ℕ} (b : Bool) → sound s ≡ b → (p : Index) → index_in (numbers (decode s)) x ≡ p
      → cond b (ok_or (placed p) UnknownStation) (Err Unsound) ≡ Ok i → Searched (index i)
  searched_by true t nowhere q h = cc
  searched_by true t (index j) q h = record { sound_store = t; answer = cc }
  searched_by false f p q h = cc

  pub searched : {i : ℕ} → located s x ≡ Ok i → Searched (index i)
  unfolding located
  searched h = searched_by (sound s) refl (index_in (numbers (decode s)) x) refl h

  missing_by : {r : Refusal} (b : Bool) → sound s ≡ b → (p : Index) → index_in (numbers (decode s)) x ≡ p
      → cond b (ok_or (placed p) UnknownStation) (Err Unsound) ≡ Err r → Missing r
  missing_by {r} true t nowhere q h = let z : UnknownStation ≡ r = cc in subst Missing z (absent (record { sound_store = t; answer = q }))
  missing_by true t (index j) q h = cc
  missing_by {r} false f p q h = let z : Unsound ≡ r = cc in subst Missing z (unsound f)

  pub missing : {r : Refusal} → located s x ≡ Err r → Missing r
  unfolding located
  missing h = missing_by (sound s) refl (index_in (numbers (decode s)) x) refl h
