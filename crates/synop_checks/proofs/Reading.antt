-- The loops over the bytes: what checks 1 and 2 say of the text, from what is read and what is left.
-- Assumes nothing.
use mathlib.Core.Path.{◌≡◌, refl, sym, ◌∙◌, ap}
use mathlib.Core.Bool.{Bool, true, false, ◌&&◌, and_assoc, and-true}
use mathlib.Core.List.{List, [], ◌∷◌}
use Prim.Native.Nat.{ℕ, suc, ◌+◌, ◌<◌, ◌≤◌}
use native.Mathlib.Numerals.{add-one}
use native.Mathlib.Omega.{arith}
use lib.Dec.{eqb, eqb-suc-suc, eqb-suc-zero, eqb-zero-suc}
use lib.ListN.{length, drop, get_or, drop_of_length-le}
use lib.Seq.{drop-cons}
use Rattle.std.specs.Prelude.{None, Some}
use Rattle.std.specs.List.{position, position_or_len}
use borrow.Author.Tests.{ne_eqb}
use Rattle.laws.proofs.Bools.{is_true, is_false, known}
use Rattle.laws.proofs.Positions.{position_some, position_none}
use Rattle.synop_checks.specs.Bytes.{ended, is_known, check2}

-- what is left from i on is the byte at i and what is left after it
step : (s : List ℕ) (i : ℕ) → i < length s → drop i s ≡ get_or s i 0 ∷ drop (i + 1) s
step s i h = drop-cons s i 0 h ∙ ap (λ (k : ℕ). get_or s i 0 ∷ drop k s) (sym (add-one i))

-- ---- the first `=`, where the code finds one
abbrev end_of : List ℕ → ℕ
end_of s = position_or_len (λ b. eqb b 61) s

empty : (s : List ℕ) → eqb (length s) 0 ≡ eqb 0 (length s)
empty [] = refl
empty (b ∷ s) = eqb-suc-zero (length s) ∙ sym (eqb-zero-suc (length s))

ended_at : (s : List ℕ) → ended s ≡ eqb (end_of s + 1) (length s)
unfolding ended
ended_at [] = refl
ended_at (b ∷ s) =
    elim (known (eqb b 61)) [
      | is_true t ↦ rw t (empty s ∙ sym (eqb-suc-suc 0 (length s)))
      | is_false f ↦ rw f (ended_at s ∙ sym (eqb-suc-suc (end_of s + 1) (length s)) ∙ ap (λ (n : ℕ). eqb n (suc (length s))) (omega arith))
    ]

pub ended_some : (s : List ℕ) (i : ℕ) → position (λ b. eqb b 61) s ≡ Some i → ended s ≡ eqb (i + 1) (length s)
ended_some s i e = ended_at s ∙ ap (λ (n : ℕ). eqb (n + 1) (length s)) (sym (position_some (λ b. eqb b 61) s i e).0)

pub ended_none : (s : List ℕ) → position (λ b. eqb b 61) s ≡ None → ended s ≡ false
ended_none s e =
    let p = position_none (λ b. eqb b 61) s e in ended_at s ∙ ne_eqb (end_of s + 1) (length s) (λ h. omega arith)

-- ---- the bytes before i are known or not
pub record Knowing (s : List ℕ) (known : Bool) (i : ℕ) : Type 0 where
  pub upto : i ≤ length s
  pub same : check2 s ≡ (known && check2 (drop i s))

pub knowing_none : (s : List ℕ) → Knowing s true 0
knowing_none s = record { upto = omega arith; same = refl }

module _ {s : List ℕ} {known : Bool} {i : ℕ} where
  pub knowing_more : {r : Bool} → Knowing s known i → i < length s → r ≡ is_known (get_or s i 0) → Knowing s (known && r) (i + 1)
  unfolding check2
  knowing_more {r} v h e =
      record {
        upto = omega arith;
        same =
            v.same ∙ ap (λ (t : List ℕ). known && check2 t) (step s i h)
            ∙ rw e (sym (and_assoc known (is_known (get_or s i 0)) (check2 (drop (i + 1) s))));
      }

  pub known_all : Knowing s known i → length s ≤ i → known ≡ check2 s
  unfolding check2
  known_all v h = sym (v.same ∙ ap (λ (t : List ℕ). known && check2 t) (drop_of_length-le s h) ∙ and-true known)
