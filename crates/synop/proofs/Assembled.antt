-- The whole report, put together from what is ensured of its bytes and of its groups.
-- Assumes nothing.
use mathlib.Core.Path.{◌≡◌, refl, sym, ◌∙◌, ap}
use mathlib.Core.Bool.{Bool, true, false, cond}
use mathlib.Core.List.{List}
use Prim.Native.Nat.{ℕ, ◌≤◌}
use native.Mathlib.Omega.{arith}
use lib.Dec.{lit≤}
use borrow.Author.Tests.{ne_eqb}
use Rattle.refusals.specs.Refusals.{number}
use Rattle.refusals.specs.declared.Refusal.{Refusal}
use Rattle.refusals.specs.declared.Refusal.TheVariants as why
use Rattle.synop_text.specs.Kinds.{tokens}
use Rattle.synop_checks.specs.Bytes.{check1, check2, of_bytes}
use Rattle.synop_checks.specs.Refusal.{of_groups, refusal}
use Rattle.synop.specs.Report.{refused, read, report}

number_least : (e : Refusal) → 1 ≤ number e
number_least why.Unended = lit≤ tt
number_least why.UnknownByte = lit≤ tt
number_least why.Shape = lit≤ tt
number_least why.OutOfRange = lit≤ tt
number_least why.Order = lit≤ tt
number_least why.UnknownStation = lit≤ tt
number_least why.NoSlot = lit≤ tt
number_least why.Filed = lit≤ tt
number_least why.Unsound = lit≤ tt
number_least why.Unopenable = lit≤ tt
number_least why.NotSettled = lit≤ tt
number_least why.NoCell = lit≤ tt
number_least why.Rank = lit≤ tt
number_least why.NotUnderWay = lit≤ tt

-- ---- checks 1 and 2, then the others; n is the number that the bytes give
module _ (s : List ℕ) where
  bytes : (a b : Bool) (n : ℕ) → cond a (cond b 0 2) 1 ≡ n → (n ≡ 0 → ⊥) → cond a (cond b (of_groups (tokens s)) 2) 1 ≡ n
  bytes true true n e h = absurd (h (sym e))
  bytes true false n e h = e
  bytes false b n e h = e

  groups : (a b : Bool) (n : ℕ) → cond a (cond b 0 2) 1 ≡ n → n ≡ 0 → cond a (cond b (of_groups (tokens s)) 2) 1 ≡ of_groups (tokens s)
  groups true true n e z = refl
  groups true false n e z = absurd (never (e ∙ z))
    where
      never : ◌≡◌ {A = ℕ} 2 0 → ⊥
      never q = omega arith
  groups false b n e z = absurd (never (e ∙ z))
    where
      never : ◌≡◌ {A = ℕ} 1 0 → ⊥
      never q = omega arith

  pub by_bytes : (e : Refusal) → number e ≡ of_bytes s → refused (number e) ≡ report s
  unfolding of_bytes refusal read report
  by_bytes e same =
      let some : number e ≡ 0 → ⊥ = λ z. let l = number_least e in omega arith in
      sym (rw (bytes (check1 s) (check2 s) (number e) (sym same) some, ne_eqb (number e) 0 some))

  pub by_groups : 0 ≡ of_bytes s → read (of_groups (tokens s)) (tokens s) ≡ report s
  unfolding of_bytes refusal report
  by_groups none = ap (λ (m : ℕ). read m (tokens s)) (sym (groups (check1 s) (check2 s) 0 (sym none) refl))
