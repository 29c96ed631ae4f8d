-- "The one-call settle equals begin and four steps, and drops a settling under way."
--     at_once
-- Assumes nothing.
use mathlib.Core.Path.{◌≡◌, refl, sym, ◌∙◌, ap, ap₂, subst}
use mathlib.Core.Bool.{true}
use mathlib.Core.List.{List, [], ◌∷◌, map}
use Prim.Native.Nat.{ℕ}
use Rattle.laws.proofs.Bools.{Known, is_true, is_false, known, cond_true}
use Rattle.store_layout.specs.Model.{Station, Store, station_at}
use Rattle.store_layout.specs.Valid.{is_under_way, ValidStore}
use Rattle.store_layout.specs.Updates.{with_block, with_station}
use Rattle.store_layout.specs.Layout.{encode, decode}
use Rattle.store_layout.specs.Framed.{Bytes}
use Rattle.store_layout.specs.Sound.{sound}
use Rattle.store_layout.specs.Form.{ours}
use Rattle.store_layout.specs.Index.{Index, nowhere, index, index_in, numbers}
use Rattle.store_layout.proofs.Soundness.{sound_valid, sound_encoded}
use Rattle.store_layout.proofs.Models.{with_same, with_with, with_itself}
use Rattle.store_layout.proofs.Indices.{Found, found, numbers_with}
use Rattle.rules.specs.Calls as calls
use Rattle.rules.specs.Calls.{Call, settle, begin, Answer, refused, accepted, Request, settling, beginning, stepping, named, ask}
use Rattle.rules.specs.Rules.{makes, copy_step, step_done, settled_station, begun_station, portion, rule}
use Rattle.rules.specs.Reaction.{date_of}
use Rattle.rules.specs.Step.{Outcome, unchanged, step}
use Rattle.rules.specs.Runs.{Logged, log, left}
use Rattle.rules.specs.Portions.{portions, five_of, AtOnce}
use Rattle.rules.proofs.Kept.{Kept, kept_on, valid_kept}
use Rattle.rules.proofs.Settling.{kept_begun, kept_portion, portions_settle}
use Rattle.rules.proofs.Forms as forms
use Rattle.rules.proofs.Steps.{step_encoded}

-- the answers of a log
abbrev answers : List Logged → List Answer
answers = map (λ (l : Logged). l.answer)

-- a run, call by call: its answers, and the bytes that it leaves
data Run : List Call → List ℕ → List Answer → List ℕ → Type 0 where
  stop : {s : List ℕ} → Run [] s [] s
  more : {c : Call} {cs : List Call} {s t u : List ℕ} {a : Answer} {bs : List Answer} → step c s ≡ record { answer = a; store = t } → Run cs t bs u
      → Run (c ∷ cs) s (a ∷ bs) u

run_left : {cs : List Call} {s u : List ℕ} {bs : List Answer} → Run cs s bs u → left step cs s ≡ u
unfolding left
run_left stop = refl
run_left (more {cs = cs} e r) = ap (λ (o : Outcome). left step cs o.store) e ∙ run_left r

run_answers : {cs : List Call} {s u : List ℕ} {bs : List Answer} → Run cs s bs u → answers (log step cs s) ≡ bs
unfolding log
run_answers stop = refl
run_answers (more {cs = cs} e r) =
    ap (λ (o : Outcome). o.answer ∷ answers (log step cs o.store)) e ∙ ap₂ ◌∷◌ refl (run_answers r)

-- what the five calls come to beside the one
record Same (x : ℕ) (s : List ℕ) : Type 0 where
  pub store : left step (portions x) s ≡ (step (settle x) s).store
  pub answers : answers (log step (portions x) s) ≡ five_of (step (settle x) s).answer

same : {x : ℕ} {s u : List ℕ} {a : Answer} → Run (portions x) s (five_of a) u → step (settle x) s ≡ record { answer = a; store = u } → Same x s
same r e =
    record {
      store = run_left r ∙ sym (ap (λ (o : Outcome). o.store) e);
      answers = run_answers r ∙ sym (ap (λ (o : Outcome). five_of o.answer) e);
    }

-- where every call that names x is refused with the same number, nothing changes
none_done : (x n : ℕ) (s : List ℕ) → ((c : Call) (request : Request) → ask c ≡ named x request → step c s ≡ unchanged (refused n) s) → Same x s
none_done x n s h =
    let p = h (calls.step x) stepping refl in
    same (more (h (begin x) beginning refl) (more p (more p (more p (more p stop))))) (h (settle x) settling refl)

-- ---- the station is there, at index i
-- its date
date_with : (i : ℕ) (t : Station) (m : Store) → date_of (with_station i t m) ≡ date_of m
unfolding with_station
date_with i t m = refl

module _ (m : Store) (v : ValidStore m) (x i : ℕ) (h : index_in (numbers m) x ≡ index i) where
  abbrev here : Station
  here = station_at m.stations i

  there : Found m x i
  there = found m x i h

  -- a request on the station u that stands there
  done : (c : Call) (request : Request) → ask c ≡ named x request → (u w : Station) → Kept here u → rule (date_of m) request u ≡ makes w
      → step c (encode (with_station i u m)) ≡ record { answer = accepted; store = encode (with_station i w m) }
  done c request e u w k r =
      let n = with_station i u m in
      step_encoded c n (valid_kept i u m v k)
      ∙ rw (e, ap (λ (l : List ℕ). index_in l x) (numbers_with i u m k.number) ∙ h, date_with i u m, with_same i u m there.inside, r)
      (ap (λ (q : Store). record { answer = accepted; store = encode q }) (with_with i u m w))

  -- a step call on it, while a settling is under way
  stepped : (u : Station) → Kept here u → is_under_way u.settled ≡ true
      → step (calls.step x) (encode (with_station i u m)) ≡ record { answer = accepted; store = encode (with_station i (portion (date_of m) u) m) }
  unfolding rule
  stepped u k e = done (calls.step x) stepping refl u (portion (date_of m) u) k (cond_true _ _ _ e)

  -- the settled numbers on the way
  under : (is_under_way (begun_station here).settled ≡ true)
      × (is_under_way (portion (date_of m) (begun_station here)).settled ≡ true)
      × (is_under_way (portion (date_of m) (portion (date_of m) (begun_station here))).settled ≡ true)
      × (is_under_way (portion (date_of m) (portion (date_of m) (portion (date_of m) (begun_station here)))).settled ≡ true)
  unfolding begun_station portion copy_step step_done with_block
  under = (refl, refl, refl, refl)

  itself : Kept here here
  itself = record { number = refl; valid = v.each i there.inside }

  all_done : Same x (encode m)
  unfolding rule
  all_done =
      let d = date_of m in
      let b = begun_station here in
      let kb = kept_begun here itself.valid in
      let k1 = kept_on kb (kept_portion d b under.0) in
      let k2 = kept_on k1 (kept_portion d (portion d b) under.1) in
      let k3 = kept_on k2 (kept_portion d (portion d (portion d b)) under.2) in
      let start = ap encode (with_itself i m) in
      same
      (more (ap (step (begin x)) (sym start) ∙ done (begin x) beginning refl here b itself refl)
      (more (stepped b kb under.0)
      (more (stepped (portion d b) k1 under.1)
      (more (stepped (portion d (portion d b)) k2 under.2) (more (stepped (portion d (portion d (portion d b))) k3 under.3) stop)))))
      (ap (step (settle x)) (sym start) ∙ done (settle x) settling refl here (settled_station d here) itself refl
      ∙ ap (λ (u : Station). record { answer = accepted; store = encode (with_station i u m) }) (sym (portions_settle d here)))

-- ---- on every buffer
pub at_once : AtOnce step
at_once = record { store = λ x s b. (whole x s b).store; answers = λ x s b. (whole x s b).answers }
  where
    by_index : (x : ℕ) (s : List ℕ) → sound s ≡ true → ValidStore (decode s) → s ≡ encode (decode s) → (p : Index) → index_in (numbers (decode s)) x ≡ p → Same x s
    by_index x s t v e nowhere q =
        none_done x 6 s
        (λ c request r. forms.step_sound ours c s t ∙ rw (r, q))
    by_index x s t v e (index i) q = subst (Same x) (sym e) (all_done (decode s) v x i q)

    whole : (x : ℕ) (s : List ℕ) → Bytes s → Same x s
    whole x s b = go (known (sound s))
      where
        go : Known (sound s) → Same x s
        go (is_false f) = none_done x 9 s (λ c request r. forms.step_unsound ours c s f)
        go (is_true t) = by_index x s t (sound_valid s b t) (sym (sound_encoded s b t)) (index_in (numbers (decode s)) x) refl
