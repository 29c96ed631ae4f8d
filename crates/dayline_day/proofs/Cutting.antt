-- The cut into reports, of one byte and of two texts one behind the other, and blanks.
-- Assumes nothing.
use mathlib.Core.Path.{◌≡◌, refl, ◌∙◌, ap}
use mathlib.Core.Bool.{Bool, true, false, ◌&&◌}
use mathlib.Core.List.{List, [], ◌∷◌, ◌++◌}
use Prim.Native.Nat.{ℕ}
use borrow.Author.Tests.{eq-eqb, ne_eqb}
use lib.Dec.{eqb}
use Rattle.laws.proofs.Bools.{Known, is_true, is_false, known}
use Rattle.dayline_text.specs.Cuts.{is_blank}
use Rattle.dayline_day.specs.Reports.{reports, rest, all_blank}

-- ---- no byte
pub reports_none : (run : List ℕ) → reports run [] ≡ []
unfolding reports
reports_none run = refl

pub rest_none : (run : List ℕ) → rest run [] ≡ run
unfolding rest
rest_none run = refl

-- ---- one byte
module _ (run : List ℕ) (b : ℕ) where
  pub reports_end : b ≡ 61 → reports run (b ∷ []) ≡ (run ++ b ∷ []) ∷ []
  unfolding reports
  reports_end e = rw (eq-eqb b 61 e)

  pub rest_end : b ≡ 61 → rest run (b ∷ []) ≡ []
  unfolding rest
  rest_end e = rw (eq-eqb b 61 e)

  pub reports_on : (b ≡ 61 → ⊥) → reports run (b ∷ []) ≡ []
  unfolding reports
  reports_on e = rw (ne_eqb b 61 e)

  pub rest_on : (b ≡ 61 → ⊥) → rest run (b ∷ []) ≡ run ++ b ∷ []
  unfolding rest
  rest_on e = rw (ne_eqb b 61 e)

-- ---- two texts
pub rest_two : (run s t : List ℕ) → rest run (s ++ t) ≡ rest (rest run s) t
unfolding rest
rest_two run [] t = refl
rest_two run (b ∷ s) t = go (known (eqb b 61)) (rest_two [] s t) (rest_two (run ++ b ∷ []) s t)
  where
    go : Known (eqb b 61) → rest [] (s ++ t) ≡ rest (rest [] s) t → rest (run ++ b ∷ []) (s ++ t) ≡ rest (rest (run ++ b ∷ []) s) t
        → rest run ((b ∷ s) ++ t) ≡ rest (rest run (b ∷ s)) t
    go (is_true e) h k = rw e h
    go (is_false e) h k = rw e k

pub reports_two : (run s t : List ℕ) → reports run (s ++ t) ≡ reports run s ++ reports (rest run s) t
unfolding reports rest
reports_two run [] t = refl
reports_two run (b ∷ s) t = go (known (eqb b 61)) (reports_two [] s t) (reports_two (run ++ b ∷ []) s t)
  where
    go : Known (eqb b 61) → reports [] (s ++ t) ≡ reports [] s ++ reports (rest [] s) t
        → reports (run ++ b ∷ []) (s ++ t) ≡ reports (run ++ b ∷ []) s ++ reports (rest (run ++ b ∷ []) s) t
        → reports run ((b ∷ s) ++ t) ≡ reports run (b ∷ s) ++ reports (rest run (b ∷ s)) t
    go (is_true e) h k = rw e (ap (λ (rs : List (List ℕ)). (run ++ b ∷ []) ∷ rs) h)
    go (is_false e) h k = rw e k

-- ---- blanks
pub blank_none : all_blank [] ≡ true
unfolding all_blank
blank_none = refl

pub blank_more : (s : List ℕ) (b : ℕ) → (all_blank s && is_blank b) ≡ all_blank (s ++ b ∷ [])
unfolding all_blank
blank_more [] b = last (is_blank b)
  where
    last : (x : Bool) → x ≡ (x && true)
    last true = refl
    last false = refl
blank_more (a ∷ s) b = join (is_blank a) (all_blank s) (is_blank b) ∙ ap (λ (x : Bool). is_blank a && x) (blank_more s b)
  where
    join : (x y z : Bool) → ((x && y) && z) ≡ (x && (y && z))
    join true y z = refl
    join false y z = refl
