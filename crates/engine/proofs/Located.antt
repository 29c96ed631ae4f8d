-- A call that names its station, by what the search for it answers.
--     found_station      what the work on the station at its index is given
--     missing_did        the refusals 9 and 6
--     found_did          what the station's rule comes to
-- A step and a cell of a station that the store has not, however the code came to know it.
--     step_absent, cell_absent
-- A report at a rank above 24.
--     rank_refused
-- Assumes nothing.
use mathlib.Core.Path.{◌≡◌, refl, sym, ◌∙◌, ap}
use mathlib.Core.List.{List}
use Prim.Native.Nat.{ℕ, ◌<◌}
use mathlib.Core.Bool.{Bool, true}
use borrow.Author.Tests.{lt-leb}
use Rattle.std.specs.Prelude.{Ok, Err}
use Rattle.refusals.specs.declared.Refusal.{Refusal}
use Rattle.refusals.specs.declared.Refusal.TheVariants.{UnknownStation}
use Rattle.refusals.specs.Refusals.{number}
use Rattle.laws.proofs.Bools.{via}
use Rattle.store_layout.specs.Sound.{sound}
use Rattle.store_layout.specs.Framed.{Bytes}
use Rattle.store_layout.specs.Index.{Index}
use Rattle.store_layout.specs.Layout.{decode}
use Rattle.store_layout.specs.Model.{station_at}
use Rattle.store_soundness.specs.Located.{located}
use Rattle.store_soundness.proofs.Locations.{Searched, searched, Missing, unsound, absent, missing, within}
use Rattle.rules.specs.Calls as Calls
use Rattle.rules.specs.Calls.{Call, Answer, refused, file, cell, Request, stepping, give_cell, Ask, named, ask}
use Rattle.rules.specs.Rules.{rule}
use Rattle.rules.specs.Reaction.{date_of}
use Rattle.rules.specs.Step.{after, asked, step}
use Rattle.engine_answers.specs.Good.{StationAt}
use Rattle.engine_answers.specs.Replies.{Did}
use Rattle.engine_answers.proofs.Outcomes.{did_as, step_unsound, step_sound, none_did, at_did}
use Rattle.engine_filing.proofs.Filed.{file_high}

module _ (s : List ℕ) (x : ℕ) where
  pub found_station : {i : ℕ} → Ok i ≡ located s x → Bytes s → StationAt s i
  found_station {i} e b =
      let f = searched s x (sym e) in record { good = record { sound = f.sound_store; bytes = b }; there = within s x i f.answer }

  module _ (c : Call) (d : Request) (q : ask c ≡ named x d) where
    searched_did : {p : Index} → Searched s x p → {a : Answer} {t : List ℕ} → Did (asked (named x d) (decode s) s) a t → Did (step c s) a t
    searched_did f = did_as (step_sound c s f.sound_store ∙ ap (λ (a : Ask). asked a (decode s) s) q)

    pub missing_did : {r : Refusal} → Err r ≡ located s x → Did (step c s) (refused (number r)) s
    missing_did e = go (missing s x (sym e))
      where
        go : {r : Refusal} → Missing s x r → Did (step c s) (refused (number r)) s
        go (unsound f) = did_as (step_unsound c s f) (record { answer = refl; left = refl })
        go (absent f) = searched_did f (none_did s x d f.answer)

    pub found_did : {i : ℕ} → Ok i ≡ located s x → {a : Answer} {t : List ℕ}
        → Did (after (rule (date_of (decode s)) d (station_at (decode s).stations i)) i (decode s) s) a t → Did (step c s) a t
    found_did {i} e w = let f = searched s x (sym e) in searched_did f (at_did s x d f.answer w)

pub step_absent : (s : List ℕ) (x : ℕ) → located s x ≡ Err UnknownStation → Did (step (Calls.step x) s) (refused 6) s
step_absent s x e = missing_did s x (Calls.step x) stepping refl (sym e)

pub cell_absent : (s : List ℕ) (x e k : ℕ) → located s x ≡ Err UnknownStation → refused 6 ≡ (step (cell x e k) s).answer
cell_absent s x e k p = (missing_did s x (cell x e k) (give_cell e k) refl (sym p)).answer

pub rank_refused : (text : List ℕ) (rank : ℕ) (s : List ℕ) {b : Bool} → b ≡ sound s → b ≡ true → 24 < rank → Did (step (file text rank) s) (refused 13) s
rank_refused text rank s h t l = did_as (file_high text rank s (via h t) (lt-leb rank 24 l)) (record { answer = refl; left = refl })
