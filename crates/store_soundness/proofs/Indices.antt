-- The search over a store's bytes: where the first station with a number is, or that none has it.
--     searched      what `find` over the indices answers
-- Assumes nothing.
use mathlib.Core.Path.{◌≡◌, sym, ◌∙◌, ap, subst}
use mathlib.Core.List.{List}
use Prim.Native.Nat.{ℕ, ◌+◌, ◌<◌, ◌≤◌}
use native.Mathlib.Omega.{arith}
use lib.ListN.{length, get_or}
use Rattle.std.specs.List.{range_with_len, AllWithin, HoldsAt}
use Rattle.std.specs.Option.{MatchOption}
use Rattle.std.specs.Prelude.{Option, Some, None}
use Rattle.std.proofs.lemmas.List.FromFn.{length-range_with_len, get_or-range_with_len}
use Rattle.store_layout.specs.Layout.{word, long, count_at, entry_at, decode}
use Rattle.store_layout.specs.Index.{nowhere, index, index_in, numbers}
use Rattle.store_soundness.specs.Located.{placed}
use Rattle.store_layout.proofs.Indices.{index_found, index_none, numbers_read, numbers_read_count}

-- in a store s of n stations, for the number x
module _ (s : List ℕ) (x n : ℕ) (e : n ≡ word s count_at) where
  -- what holds of the entries passed holds of the numbers passed
  unlike : (i : ℕ) → i ≤ n → ((k : ℕ) → k < i → long s (entry_at k) ≡ x → ⊥) → (k : ℕ) → k < i → get_or (numbers (decode s)) k 0 ≡ x → ⊥
  unlike i l h k m p = h k m (sym (numbers_read s k (omega arith)) ∙ p)

  pub found : (i : ℕ) → i < n → ((k : ℕ) → k < i → long s (entry_at k) ≡ x → ⊥) → long s (entry_at i) ≡ x → index_in (numbers (decode s)) x ≡ index i
  found i l h p =
      index_found (numbers (decode s)) x i
      (record { inside = rw (numbers_read_count s, ← e) l; holds = numbers_read s i (omega arith) ∙ p; first = unlike i (omega arith) h })

  pub missing : ((k : ℕ) → k < n → long s (entry_at k) ≡ x → ⊥) → index_in (numbers (decode s)) x ≡ nowhere
  missing h = index_none (numbers (decode s)) x (λ k l. unlike n (omega arith) h k (rw (e, ← numbers_read_count s) l))

  -- the station at an index has the number; it has another
  abbrev pub Here : ℕ → Type 0
  Here i = long s (entry_at i) ≡ x

  abbrev pub Other : ℕ → Type 0
  Other i = Here i → ⊥

  abbrev indices : List ℕ
  indices = range_with_len 0 n

  others : (m : ℕ) → m ≤ n → AllWithin Other indices 0 m → (k : ℕ) → k < m → Other k
  others m u a k l =
      let b : k < n = omega arith in
      let i : 0 + k ≡ k = omega arith in
      subst Other (get_or-range_with_len 0 n k 0 b ∙ i) (a k 0 (omega arith) l)

  pub searched : (r : Option ℕ)
      → MatchOption r (AllWithin Other indices 0 (length indices)) (λ i. Here i × (j : ℕ) × (j < length indices) × HoldsAt (λ y. y ≡ i) indices j × AllWithin Other indices 0 j)
      → r ≡ placed (index_in (numbers (decode s)) x)
  searched None a = sym (ap placed (missing (others n (omega arith) (rw length-range_with_len at a))))
  searched (Some i) (here, j, l, at, before) =
      let b : j < n = rw length-range_with_len at l in
      let same : j ≡ i = omega (arith, at 0, get_or-range_with_len 0 n j 0 b) in
      sym (ap placed (found i (omega arith) (others i (omega arith) (subst (λ (k : ℕ). AllWithin Other indices 0 k) same before)) here))
