-- An open in two byte forms: the model's test is one, and so is that of the length where the buffers are as long.
--     same_opens
-- Assumes nothing.
use mathlib.Core.Path.{◌≡◌, refl, sym, ◌∙◌}
use mathlib.Core.Bool.{Bool, true, false}
use mathlib.Core.List.{List, ◌∷◌}
use Prim.Native.Nat.{ℕ}
use native.Mathlib.Omega.{arith}
use borrow.Author.Tests.{eqb-true, eq-eqb}
use lib.Dec.{eqb}
use lib.ListN.{length}
use Rattle.laws.proofs.Bools.{Known, is_true, is_false, known, cond_true, cond_false}
use Rattle.store_layout.specs.Form.{Form, ours, LawfulForm, AnyTwoForms}
use Rattle.store_layout.specs.Opening.{openable_in, fresh}
use Rattle.store_layout.proofs.Forms.{ours_lawful, corresponding_encoded}
use Rattle.store_layout.proofs.Opened.{can_open_in_form, valid_fresh}
use Rattle.rules.specs.Calls.{refused, accepted}
use Rattle.rules.specs.Step.{unchanged}
use Rattle.rules.proofs.FormExamples.{padded, padded_lawful}
use Rattle.engine_answers.specs.Replies.{open_in}
use Rattle.engine_answers.specs.Forms.{AsLong, SameOpened, SameOpens}

never : {n : ℕ} → refused n ≡ accepted → ⊥
never e = let z : ◌≡◌ {A = ℕ} 0 1 = cc in omega arith

-- tests that hold together are one
one_test : (a b : Bool) → (a ≡ true → b ≡ true) → (b ≡ true → a ≡ true) → a ≡ b
one_test true b h k = sym (h refl)
one_test false true h k = k refl
one_test false false h k = refl

module _ (year month day : ℕ) (numbers rows : List ℕ) where
  module _ (f : Form) (s : List ℕ) where
    opened : openable_in f (length s) year month day numbers rows ≡ true
        → open_in f s year month day numbers rows ≡ record { answer = accepted; store = f.encode (fresh year month day numbers rows) }
    unfolding open_in
    opened e = cond_true _ _ _ e

    unopened : openable_in f (length s) year month day numbers rows ≡ false → open_in f s year month day numbers rows ≡ unchanged (refused 10) s
    unfolding open_in
    unopened e = cond_false _ _ _ e

  same_openable : {f g : Form} {s t : List ℕ} → AsLong f g (length numbers) s t
      → openable_in f (length s) year month day numbers rows ≡ openable_in g (length t) year month day numbers rows
  unfolding openable_in
  same_openable {f} {g} {s} {t} a =
      rw (one_test (eqb (length s) (f.size (length numbers))) (eqb (length t) (g.size (length numbers)))
      (λ e. eq-eqb _ _ (a.there (eqb-true _ _ e))) (λ e. eq-eqb _ _ (a.back (eqb-true _ _ e))))

  same_opened : (f g : Form) → LawfulForm f → LawfulForm g → (s t : List ℕ) → AsLong f g (length numbers) s t
      → SameOpened f g s t (open_in f s year month day numbers rows) (open_in g t year month day numbers rows)
  same_opened f g p q s t a = go (known (openable_in f (length s) year month day numbers rows))
    where
      go : Known (openable_in f (length s) year month day numbers rows)
          → SameOpened f g s t (open_in f s year month day numbers rows) (open_in g t year month day numbers rows)
      go (is_true e) =
          rw (opened f s e, opened g t (sym (same_openable a) ∙ e))
          (record {
            answer = refl;
            accepted = λ z. corresponding_encoded p q _ (valid_fresh year month day numbers rows (can_open_in_form year month day numbers rows f _ e));
            refused = λ z. absurd (never (sym z));
          })
      go (is_false e) =
          rw (unopened f s e, unopened g t (sym (same_openable a) ∙ e))
          (record { answer = refl; accepted = λ z. absurd (never z); refused = λ z. (refl, refl) })

pub same_opens : AnyTwoForms SameOpens
same_opens f g p q = record { each = λ year month day numbers rows. same_opened year month day numbers rows f g p q }

-- ---- for example: ours against the form with one byte more, where the buffers' lengths are one apart
one_apart : (n b : ℕ) (s : List ℕ) → AsLong ours (padded ours) n s (b ∷ s)
one_apart n b s = record { there = λ e. omega (arith, e); back = λ e. omega (arith, e) }

ours_padded : (year month day : ℕ) (numbers rows s : List ℕ) (b : ℕ)
    → SameOpened ours (padded ours) s (b ∷ s) (open_in ours s year month day numbers rows) (open_in (padded ours) (b ∷ s) year month day numbers rows)
ours_padded year month day numbers rows s b =
    (same_opens ours (padded ours) ours_lawful (padded_lawful ours ours_lawful)).each year month day numbers rows s (b ∷ s) (one_apart (length numbers) b s)
