-- What a call comes to, and what is asked of a station, by its index.
--     did_as                       an outcome that is another one
--     step_unsound, step_sound     a call on an unsound store, on a sound one
--     none_did, at_did             asked of a station that is not there, of the station at an index
-- Assumes nothing.
use mathlib.Core.Path.{◌≡◌, refl, sym, ◌∙◌, ap}
use mathlib.Core.Bool.{true, false}
use mathlib.Core.List.{List}
use Prim.Native.Nat.{ℕ}
use Rattle.store_layout.specs.Model.{station_at}
use Rattle.store_layout.specs.Layout.{decode}
use Rattle.store_layout.specs.Form.{ours}
use Rattle.store_layout.specs.Sound.{sound}
use Rattle.store_layout.specs.Index.{Index, nowhere, index, index_in, numbers}
use Rattle.rules.specs.Calls.{Call, Answer, refused, Request, named, ask}
use Rattle.rules.specs.Rules.{rule}
use Rattle.rules.specs.Reaction.{date_of, on_station, at}
use Rattle.rules.specs.Step.{Outcome, unchanged, outcome_in, after, asked, step}
use Rattle.rules.proofs.Forms as Forms
use Rattle.engine_answers.specs.Replies.{Did}

pub did_as : {o p : Outcome} {a : Answer} {t : List ℕ} → o ≡ p → Did p a t → Did o a t
did_as e d = record { answer = d.answer ∙ ap (λ (o : Outcome). o.answer) (sym e); left = d.left ∙ ap (λ (o : Outcome). o.store) (sym e) }

pub step_unsound : (c : Call) (s : List ℕ) → sound s ≡ false → step c s ≡ unchanged (refused 9) s
step_unsound = Forms.step_unsound ours

pub step_sound : (c : Call) (s : List ℕ) → sound s ≡ true → step c s ≡ asked (ask c) (decode s) s
step_sound = Forms.step_sound ours

module _ (s : List ℕ) (x : ℕ) (d : Request) where
  asked_in : {p : Index} → index_in (numbers (decode s)) x ≡ p → asked (named x d) (decode s) s ≡ outcome_in ours (at p (on_station d (decode s))) s
  asked_in h = ap (λ (p : Index). outcome_in ours (at p (on_station d (decode s))) s) h

  pub none_did : index_in (numbers (decode s)) x ≡ nowhere → Did (asked (named x d) (decode s) s) (refused 6) s
  none_did h = did_as (asked_in h) (record { answer = refl; left = refl })

  pub at_did : {i : ℕ} → index_in (numbers (decode s)) x ≡ index i → {a : Answer} {t : List ℕ}
      → Did (after (rule (date_of (decode s)) d (station_at (decode s).stations i)) i (decode s) s) a t → Did (asked (named x d) (decode s) s) a t
  at_did h w = did_as (asked_in h) w
