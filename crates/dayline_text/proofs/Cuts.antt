-- The first place of a byte: what a search for it answers.
-- Assumes nothing.
use mathlib.Core.Path.{◌≡◌, refl, sym, ◌∙◌, ap}
use mathlib.Core.Bool.{cond, not}
use mathlib.Core.List.{List}
use Prim.Native.Nat.{ℕ, ◌<◌, ◌≤◌}
use native.Mathlib.Omega.{arith}
use borrow.Author.Tests.{ltb-true, ltb-false}
use lib.ListN.{length}
use Rattle.std.specs.Prelude.{◌==◌, nat_lt, Some, None}
use Rattle.std.specs.List.{position, position_or_len}
use Rattle.std.proofs.lemmas.List.Recursion.{is_position_or_len}
use Rattle.std.proofs.lemmas.Option.{cond_some, none-some}
use Rattle.std.proofs.lemmas.List.Sums.{prefix_len-le-length}
use Rattle.laws.proofs.Bools.{Known, is_true, is_false, known, cond_true}
use Rattle.dayline_text.specs.Cuts.{index}

index_is : (b : ℕ) (s : List ℕ) → index b s ≡ position_or_len (λ x. x == b) s
unfolding index
index_is b s = is_position_or_len (index b) (λ x. x == b) refl (λ x xs. ap (λ (k : ℕ). cond (x == b) 0 k) (omega arith)) s

module _ (b : ℕ) (s : List ℕ) where
  pub index_upto : index b s ≤ length s
  index_upto = omega (arith, index_is b s, prefix_len-le-length (λ x. not (x == b)) s)

  pub found : {k : ℕ} → position (λ x. x == b) s ≡ Some k → (k < length s) × (index b s ≡ k)
  found {k} e =
      let h = cond_some (nat_lt (position_or_len (λ x. x == b) s) (length s)) (position_or_len (λ x. x == b) s) k e in
      (omega (arith, h.1, ltb-true (position_or_len (λ x. x == b) s) (length s) h.0), index_is b s ∙ h.1)

  pub not_found : position (λ x. x == b) s ≡ None → index b s ≡ length s
  not_found e = go (known (nat_lt (position_or_len (λ x. x == b) s) (length s)))
    where
      go : Known (nat_lt (position_or_len (λ x. x == b) s) (length s)) → index b s ≡ length s
      go (is_true t) = absurd (none-some _ (sym e ∙ cond_true _ _ _ t))
      go (is_false f) = omega (arith, index_upto, index_is b s, ltb-false (position_or_len (λ x. x == b) s) (length s) f)
