-- The calls in two byte forms: what a lawful form leaves of a store's bytes is the bytes of what the reaction leaves of the store, so two
-- forms leave the same store and answer the same.
--     step_sound       a call on a sound buffer
--     sound_left       it leaves a sound buffer
--     same_calls       the calls in two lawful forms
-- Assumes nothing.
use mathlib.Core.Path.{◌≡◌, refl, sym, ◌∙◌, ap, ap₂, subst}
use mathlib.Core.Bool.{true, false, false≢true}
use mathlib.Core.List.{List, [], ◌∷◌}
use Prim.Native.Nat.{ℕ}
use Rattle.laws.proofs.Bools.{cond_true, cond_false}
use Rattle.store_layout.specs.Model.{Store}
use Rattle.store_layout.specs.Valid.{ValidStore}
use Rattle.store_layout.specs.Form.{Form, SoundIn, LawfulForm, Corresponding, AnyTwoForms}
use Rattle.rules.specs.Calls.{Call, Answer, refused, ask}
use Rattle.rules.specs.Reaction.{Reaction, stays, becomes, reaction}
use Rattle.rules.specs.Step.{Outcome, unchanged, outcome_in, step_in}
use Rattle.rules.specs.Runs.{Logged, log, left}
use Rattle.rules.specs.Forms.{Counterparts, SameCalls}
use Rattle.rules.proofs.Kept.{AllLawful}
use Rattle.rules.proofs.Reactions.{answered, left_of, valid_left}

-- ---- one form
module _ (f : Form) where
  pub step_unsound : (c : Call) (s : List ℕ) → f.sound s ≡ false → step_in f c s ≡ unchanged (refused 9) s
  unfolding step_in
  step_unsound c s e = cond_false _ _ _ e

  pub step_sound : (c : Call) (s : List ℕ) → f.sound s ≡ true → step_in f c s ≡ outcome_in f (reaction (ask c) (f.decode s)) s
  unfolding step_in
  step_sound c s e = cond_true _ _ _ e

  -- the store m is read of a sound buffer
  record BytesOf (m : Store) (s : List ℕ) : Type 0 where
    sound : SoundIn f s
    same : f.decode s ≡ m

  answer_in : (r : Reaction) (s : List ℕ) → (outcome_in f r s).answer ≡ answered r
  answer_in (stays a) s = refl
  answer_in (becomes m) s = refl

  module _ (lawful : LawfulForm f) where
    bytes_left : (r : Reaction) (s : List ℕ) → SoundIn f s → ValidStore (left_of r (f.decode s)) → BytesOf (left_of r (f.decode s)) (outcome_in f r s).store
    bytes_left (stays a) s h v = record { sound = h; same = refl }
    bytes_left (becomes m) s h v = record { sound = lawful.written m v; same = lawful.same m v }

    module _ (rules : AllLawful) (c : Call) (s : List ℕ) (h : SoundIn f s) where
      step_answer : (step_in f c s).answer ≡ answered (reaction (ask c) (f.decode s))
      step_answer = ap (λ (o : Outcome). o.answer) (step_sound c s h.sound) ∙ answer_in (reaction (ask c) (f.decode s)) s

      step_left : BytesOf (left_of (reaction (ask c) (f.decode s)) (f.decode s)) (step_in f c s).store
      step_left =
          subst (λ (o : Outcome). BytesOf (left_of (reaction (ask c) (f.decode s)) (f.decode s)) o.store) (sym (step_sound c s h.sound))
          (bytes_left (reaction (ask c) (f.decode s)) s h (valid_left rules c (f.decode s) (lawful.valid s h)))

      pub sound_left : SoundIn f (step_in f c s).store
      sound_left = step_left.sound

-- ---- two forms
module _ (f g : Form) (p : LawfulForm f) (q : LawfulForm g) where
  -- the bytes of the store that is read of a sound buffer, in the other form
  other : (s : List ℕ) → SoundIn f s → (t : List ℕ) × Corresponding f g s t
  other s h =
      (g.encode (f.decode s), record { first = h; second = q.written _ (p.valid s h); same = sym (q.same _ (p.valid s h)) })

  pub counterpart_one : (s t u : List ℕ) → Corresponding f g s t → Corresponding f g s u → t ≡ u
  counterpart_one s t u a b =
      sym (q.whole t a.second) ∙ ap g.encode (sym a.same ∙ b.same) ∙ q.whole u b.second

pub flipped : {f g : Form} {s t : List ℕ} → Corresponding f g s t → Corresponding g f t s
flipped a = record { first = a.second; second = a.first; same = sym a.same }

pub counterparts : AnyTwoForms Counterparts
counterparts f g p q =
    record {
      some = other f g p q;
      one = counterpart_one f g p q;
      none = λ s t e a. false≢true (sym e ∙ a.first.sound);
      met = λ t h. let o = other g f q p t h in (o.0, flipped o.1);
      met_once = λ s r t a b. counterpart_one g f q p t s r (flipped a) (flipped b);
      met_none = λ s t e a. false≢true (sym e ∙ a.second.sound);
    }

module _ (rules : AllLawful) (f g : Form) (p : LawfulForm f) (q : LawfulForm g) where
  pub same_answer : (c : Call) (s t : List ℕ) → Corresponding f g s t → (step_in f c s).answer ≡ (step_in g c t).answer
  same_answer c s t a =
      step_answer f p rules c s a.first ∙ ap (λ (m : Store). answered (reaction (ask c) m)) a.same
      ∙ sym (step_answer g q rules c t a.second)

  pub same_store : (c : Call) (s t : List ℕ) → Corresponding f g s t → Corresponding f g (step_in f c s).store (step_in g c t).store
  same_store c s t a =
      let x = step_left f p rules c s a.first in
      let y = step_left g q rules c t a.second in
      record { first = x.sound; second = y.sound; same = x.same ∙ ap (λ (m : Store). left_of (reaction (ask c) m) m) a.same ∙ sym y.same }

  -- lists of calls
  same_answers : (cs : List Call) (s t : List ℕ) → Corresponding f g s t → log (step_in f) cs s ≡ log (step_in g) cs t
  unfolding log
  same_answers [] s t a = refl
  same_answers (c ∷ cs) s t a =
      ap₂ (λ (x : Answer) (ls : List Logged). record { call = c; answer = x } ∷ ls) (same_answer c s t a)
      (same_answers cs (step_in f c s).store (step_in g c t).store (same_store c s t a))

  same_stores : (cs : List Call) (s t : List ℕ) → Corresponding f g s t → Corresponding f g (left (step_in f) cs s) (left (step_in g) cs t)
  unfolding left
  same_stores [] s t a = a
  same_stores (c ∷ cs) s t a = same_stores cs (step_in f c s).store (step_in g c t).store (same_store c s t a)

pub same_calls : AllLawful → AnyTwoForms SameCalls
same_calls rules f g p q =
    record {
      counterparts = counterparts f g p q;
      answer = same_answer rules f g p q;
      store = same_store rules f g p q;
      answers = same_answers rules f g p q;
      stores = same_stores rules f g p q;
      unsound = step_unsound f;
      unsound_second = step_unsound g;
    }
