-- The generator: its two ways out, its answer under another name, and that the slice it fills equals the lookup, entry by entry.
-- Assumes nothing.
use mathlib.Core.Path.{◌≡◌, refl, sym, ◌∙◌, ap}
use mathlib.Core.List.{List}
use Rattle.std.specs.Prelude.{Option, Some, Result, Ok, Err}
use Prim.Native.Nat.{ℕ, ◌≤◌, ◌<◌}
use native.Mathlib.Decide.{ℕ_discrete}
use native.Mathlib.Omega.{arith}
use lib.IntN.{sub_ℕ}
use lib.ListN.{length}
use Rattle.laws.proofs.Fill.{Done}
use Rattle.vapour.specs.Vapour.{places, entry, Entries}
use Rattle.vapour.specs.Generator.{Fills, Generated, AsFilled}
use Rattle.vapour.specs.declared.LengthNeeded.{LengthNeeded}

module _ {A : Type 0} {full : A} {needs : ℕ → A} where
  -- a slice of another length
  pub untouched : (xs : List ℕ) → (length xs ≡ places → ⊥) → Fills full needs xs (needs places) xs
  untouched xs n = record { filled = λ e. absurd (n e); left = λ _. (refl, refl) }

  -- a slice into which an entry went at every index
  pub all_filled : {xs ys : List ℕ} {k : ℕ} →
      length xs ≡ places → Done (λ i. entry (sub_ℕ i 500)) 0 places ys k → places ≤ k → Fills full needs xs full ys
  all_filled e h l =
      record {
        filled = λ _. (refl, record { long = h.long; each = λ i b. h.past i (omega arith) });
        left = λ n. absurd (n e);
      }

  -- the same answer in other words
  pub renamed : {B : Type 0} (f : A → B) {xs ys : List ℕ} {r : A} → Fills full needs xs r ys → Fills (f full) (λ n. f (needs n)) xs (f r) ys
  renamed f g = record { filled = λ e. (ap f (g.filled e).0, (g.filled e).1); left = λ n. (ap f (g.left n).0, (g.left n).1) }

never : {e : LengthNeeded} → ◌≡◌ {A = Result Unit LengthNeeded} (Ok tt) (Err e) → ⊥
never e = let z : ◌≡◌ {A = ℕ} 0 1 = cc in omega arith

-- what is filled had the table's length, and holds the entries
entries : (xs ys : List ℕ) → Generated xs (Ok tt) ys → Entries ys
entries xs ys g = go (ℕ_discrete (length xs) places)
  where
    go : Dec (length xs ≡ places) → Entries ys
    go (yes e) = (g.filled e).1
    go (no n) = absurd (never (g.left n).0)

-- what tells the definition's entry at an index tells what every filled slice has there
pub entry_by_entry : (i : ℕ) (r : Option ℕ) → i < places → r ≡ Some (entry (sub_ℕ i 500)) → AsFilled i r
entry_by_entry i r l e xs ys g = e ∙ ap Some (sym ((entries xs ys g).each i l))
