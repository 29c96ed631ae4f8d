-- A loop that fills a list of n entries from the front with f's values, one store a turn.
--     none     before the first turn
--     more     one more store
--     whole    after the last, the list is f's table
-- Assumes nothing.
use mathlib.Core.Path.{◌≡◌, sym, ◌∙◌, subst}
use mathlib.Core.List.{List}
use Prim.Native.Nat.{ℕ, ◌+◌, ◌<◌, ◌≤◌}
use native.Mathlib.Omega.{arith}
use borrow.Author.Count.{below_none, below_more}
use lib.ListN.{length, get_or, set, length-set}
use lib.Seq.{get_or-set_same, get_or-set_other}
use Rattle.laws.specs.Table.{table}
use Rattle.laws.proofs.Tables.{is_table}

module _ {A : Type 0} where
  -- of the n entries of xs, the first i are f's values; d is what get_or gives past the end
  pub record Done (f : ℕ → A) (d : A) (n : ℕ) (xs : List A) (i : ℕ) : Type 0 where
    pub upto : i ≤ n
    pub long : length xs ≡ n
    pub past : (k : ℕ) → k < i → get_or xs k d ≡ f k

  pub none : (f : ℕ → A) (d : A) (n : ℕ) (xs : List A) → length xs ≡ n → Done f d n xs 0
  none f d n xs e = record { upto = omega arith; long = e; past = below_none (λ k. get_or xs k d ≡ f k) }

  pub more : {f : ℕ → A} {d : A} {n : ℕ} {xs : List A} {i : ℕ} (v : A) → Done f d n xs i → i < n → v ≡ f i → Done f d n (set xs i v) (i + 1)
  more {f} {d} {n} {xs} {i} v h l e =
      record {
        upto = omega arith;
        long = length-set xs i v ∙ h.long;
        past =
            below_more (λ k. get_or (set xs i v) k d ≡ f k) i (λ k b. get_or-set_other xs i k v d (λ q. not_self k i b q) ∙ h.past k b)
            (get_or-set_same xs i v d (subst (λ (m : ℕ). i < m) (sym h.long) l) ∙ e);
      }
    where
      not_self : (k i : ℕ) → k < i → k ≡ i → ⊥
      not_self k i b q = omega arith

  pub whole : {f : ℕ → A} {d : A} {n : ℕ} {xs : List A} {i : ℕ} → Done f d n xs i → n ≤ i → xs ≡ table n f
  whole {f} {d} {n} {xs} {i} h l = is_table n f xs d h.long (λ k b. h.past k (omega arith))
