-- How a text is cut at its first `=`.
-- Assumes nothing.
use mathlib.Core.Path.{◌≡◌, refl, sym, ap}
use mathlib.Core.Bool.{Bool, true, false, cond}
use mathlib.Core.List.{List, [], ◌∷◌, ◌++◌, append_assoc, append-nil}
use Prim.Native.Nat.{ℕ, suc, ◌+◌}
use native.Mathlib.Omega.{arith}
use borrow.Author.Tests.{lt-ltb}
use lib.Dec.{eqb, ltb}
use lib.ListN.{length, take, drop}
use Rattle.std.specs.Prelude.{Some, None, ◌==◌}
use Rattle.std.specs.List.{position, position_or_len}
use Rattle.std.proofs.lemmas.Grind.{common_steps}
use Rattle.laws.proofs.Bools.{is_true, is_false, known}
use Rattle.bulletin.specs.Pieces.{pieces}

-- how many characters stand before the first `=`
abbrev ahead : List ℕ → ℕ
ahead t = position_or_len (λ b. b == 61) t

-- the pieces by whether there is one
abbrev cut : Bool → List ℕ → List ℕ → List (List ℕ)
cut found run t = cond found ((run ++ take (ahead t) t) ∷ pieces [] (drop (suc (ahead t)) t)) ((run ++ t) ∷ [])

-- by the first character
here : (run : List ℕ) (b : ℕ) (t : List ℕ) → eqb b 61 ≡ true → pieces run (b ∷ t) ≡ cut (ltb (ahead (b ∷ t)) (length (b ∷ t))) run (b ∷ t)
unfolding pieces
here run b t e = rw (e, lt-ltb 0 (suc (length t)) (omega arith), append-nil run) refl

later : (run : List ℕ) (b : ℕ) (t : List ℕ) → eqb b 61 ≡ false → pieces (run ++ b ∷ []) t ≡ cut (ltb (ahead t) (length t)) (run ++ b ∷ []) t
    → pieces run (b ∷ t) ≡ cut (ltb (ahead (b ∷ t)) (length (b ∷ t))) run (b ∷ t)
unfolding pieces
later run b t e more =
    let n : 1 + ahead t ≡ suc (ahead t) = omega arith in
    let l : ltb (suc (ahead t)) (suc (length t)) ≡ ltb (ahead t) (length t) = grind arith in
    rw (e, more, append_assoc run (b ∷ []) (take (ahead t) t), append_assoc run (b ∷ []) t, n, l) refl

first_cut : (run t : List ℕ) → pieces run t ≡ cut (ltb (ahead t) (length t)) run t
unfolding pieces
first_cut run [] = ap (λ (r : List ℕ). r ∷ []) (sym (append-nil run))
first_cut run (b ∷ t) = elim (known (eqb b 61)) [
  | is_true e ↦ here run b t e
  | is_false e ↦ later run b t e (first_cut (run ++ b ∷ []) t)
]

module _ (t : List ℕ) where
  -- a report ends at the `=`
  pub piece_here : (i : ℕ) → position (λ b. b == 61) t ≡ Some i → pieces [] t ≡ take i t ∷ pieces [] (drop (i + 1) t)
  unfolding pieces
  piece_here i e = grind (arith, common_steps, first_cut [] t)

  -- the tail
  pub piece_last : position (λ b. b == 61) t ≡ None → pieces [] t ≡ t ∷ []
  unfolding pieces
  piece_last e = grind (arith, common_steps, first_cut [] t)
