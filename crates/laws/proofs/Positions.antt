-- What `position` found, by the number of elements before it.
-- Assumes nothing.
use mathlib.Core.Path.{◌≡◌}
use mathlib.Core.Bool.{Bool}
use mathlib.Core.List.{List}
use Prim.Native.Nat.{ℕ, ◌<◌, ◌≤◌}
use native.Mathlib.Omega.{arith}
use borrow.Author.Tests.{ltb-true, ltb-false}
use lib.Dec.{ltb}
use lib.ListN.{length}
use Rattle.std.specs.Prelude.{None, Some}
use Rattle.std.specs.List.{position, position_or_len}
use Rattle.laws.proofs.Bools.{is_true, is_false, known}

module _ {A : Type 0} (p : A → Bool) (s : List A) where
  pub position_some : (j : ℕ) → position p s ≡ Some j → (j ≡ position_or_len p s) × (position_or_len p s < length s)
  position_some j e =
      elim (known (ltb (position_or_len p s) (length s))) [
        | is_true t ↦ let q : Some (position_or_len p s) ≡ Some j = rw t at e in (cc, ltb-true (position_or_len p s) (length s) t)
        | is_false f ↦ let q : None ≡ Some j = rw f at e in let z : ◌≡◌ {A = ℕ} 0 1 = cc in absurd (omega arith)
      ]

  pub position_none : position p s ≡ None → length s ≤ position_or_len p s
  position_none e =
      elim (known (ltb (position_or_len p s) (length s))) [
        | is_true t ↦ let q : Some (position_or_len p s) ≡ None = rw t at e in let z : ◌≡◌ {A = ℕ} 0 1 = cc in absurd (omega arith)
        | is_false f ↦ ltb-false (position_or_len p s) (length s) f
      ]
