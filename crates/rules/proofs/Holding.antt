-- Stores that hold a station, and what a call leaves of that: nothing of the store but its date and the station itself plays a part.
--     HoldsStation   the bytes are those of a valid store of that date, in which the station stands
--     holds_own      after a call that names it
--     holds_other    after any other call
--     records_held   its records
--     station_held   the station that is read of the bytes
-- Assumes nothing.
use mathlib.Core.Path.{◌≡◌, refl, sym, ◌∙◌, ap, ap₂, subst}
use mathlib.Core.Bool.{true, false, false≢true}
use mathlib.Core.List.{List, ◌++◌}
use Prim.Native.Nat.{ℕ, ◌+◌, ◌<◌}
use native.Mathlib.Omega.{arith}
use borrow.Author.Tests.{eqb-true}
use lib.ListN.{length, take, drop, length-append}
use Rattle.store_layout.specs.Model.{Station, Store, station_at}
use Rattle.store_layout.specs.Valid.{ValidStation, ValidStore}
use Rattle.store_layout.specs.Layout.{encode, decode, encode_entry, encode_block, entry_at, entry_length, block_at, block_length}
use Rattle.store_layout.specs.Form.{ours}
use Rattle.store_layout.specs.Index.{Index, index, index_in, numbers}
use Rattle.store_layout.specs.Updates.{with_station}
use Rattle.store_layout.proofs.Stores.{decode_encode, entry_in, block_in, length_entry}
use Rattle.store_layout.proofs.Blocks.{length_block}
use Rattle.store_layout.proofs.Models.{with_count, with_same, with_other}
use Rattle.store_layout.proofs.Indices.{finds}
use Rattle.rules.specs.Calls.{Call, Answer, accepted, Ask, unnamed, named, denied, ask}
use Rattle.rules.specs.Rules.{Date, Effect, keeps, makes, rule}
use Rattle.rules.specs.Reaction.{Reaction, date_of, placed, at}
use Rattle.rules.specs.Step.{Outcome, outcome_in, after, asked, step}
use Rattle.rules.specs.Runs.{asks, names, records_at, records}
use Rattle.rules.specs.Portions.{station_for, station_in}
use Rattle.rules.proofs.Kept.{Kept, valid_kept, AllLawful, done_by, kept_by}
use Rattle.rules.proofs.Reactions.{Reacts, same, replaced, reacts}
use Rattle.rules.proofs.Steps.{step_encoded}

-- the station t, with the number x, stands in a valid store of the date d, and s are the bytes of that store
pub record HoldsStation (d : Date) (x : ℕ) (t : Station) (s : List ℕ) : Type 0 where
  pub model : Store
  pub valid : ValidStore model
  pub bytes : s ≡ encode model
  pub date : date_of model ≡ d
  pub index : ℕ
  pub inside : index < length model.stations
  pub station : station_at model.stations index ≡ t
  pub named : t.number ≡ x

date_with : (i : ℕ) (t : Station) (m : Store) → date_of (with_station i t m) ≡ date_of m
unfolding with_station
date_with i t m = refl

-- what a request leaves: its answer, and the station
abbrev pub answer_of : Effect → Answer
answer_of (keeps a) = a
answer_of (makes u) = accepted

abbrev pub station_of : Effect → Station → Station
station_of (keeps a) t = t
station_of (makes u) t = u

after_answer : (r : Effect) (i : ℕ) (m : Store) (s : List ℕ) → (after r i m s).answer ≡ answer_of r
after_answer (keeps a) i m s = refl
after_answer (makes u) i m s = refl

module _ {d : Date} {x : ℕ} {t : Station} {s : List ℕ} (h : HoldsStation d x t s) where
  index_held : index_in (numbers h.model) x ≡ index h.index
  index_held =
      finds h.model h.valid x h.index
      (record { inside = h.inside; named = ap (λ (u : Station). u.number) h.station ∙ h.named })

  step_held : (c : Call) → step c s ≡ asked (ask c) h.model s
  step_held c = ap (step c) h.bytes ∙ step_encoded c h.model h.valid ∙ ap (asked (ask c) h.model) (sym h.bytes)

  held_valid : ValidStation t
  held_valid = subst ValidStation h.station (h.valid.each h.index h.inside)

  -- a station u put in the place of the j-th: what stands at the station's own place is held
  put : (j : ℕ) (u v : Station) → Kept (station_at h.model.stations j) u → station_at (with_station j u h.model).stations h.index ≡ v
      → v.number ≡ x → HoldsStation d x v (encode (with_station j u h.model))
  put j u v k e n =
      record {
        model = with_station j u h.model;
        valid = valid_kept j u h.model h.valid k;
        bytes = refl;
        date = date_with j u h.model ∙ h.date;
        index = h.index;
        inside = rw (with_count j u h.model) h.inside;
        station = e;
        named = n;
      }

  -- a call that names the station does what the rule says, of the date and the station
  step_own : (c : Call) → names x c ≡ true → step c s ≡ after (done_by d (ask c) t) h.index h.model s
  step_own c e = step_held c ∙ go (ask c) e
    where
      go : (q : Ask) → asks q x ≡ true → asked q h.model s ≡ after (done_by d q t) h.index h.model s
      go (unnamed n) b = refl
      go (named y request) b =
          ap (λ (p : Index). outcome_in ours (at p (λ i. placed (rule (date_of h.model) request (station_at h.model.stations i)) i h.model)) s)
          (ap (index_in (numbers h.model)) (eqb-true y x b) ∙ index_held)
          ∙ ap₂ (λ (b : Date) (u : Station). after (rule b request u) h.index h.model s) h.date h.station
      go (denied y n) b = refl

  pub answer_own : (c : Call) → names x c ≡ true → (step c s).answer ≡ answer_of (done_by d (ask c) t)
  answer_own c e = ap (λ (o : Outcome). o.answer) (step_own c e) ∙ after_answer (done_by d (ask c) t) h.index h.model s

  -- ---- the station that is read of the bytes
  pub station_held : station_in x s ≡ t
  unfolding station_in
  station_held =
      ap (λ (m : Store). station_for (index_in (numbers m) x) m) (ap decode h.bytes ∙ decode_encode h.model h.valid)
      ∙ ap (λ (p : Index). station_for p h.model) index_held
      ∙ h.station

  -- ---- its records: the bytes of the station, whatever else the store holds
  pub records_held : records x s ≡ encode_entry t ++ encode_block t.block
  unfolding records
  records_held =
      ap (λ (m : Store). records_at (index_in (numbers m) x) (length m.stations) s) (ap decode h.bytes ∙ decode_encode h.model h.valid)
      ∙ ap (λ (p : Index). records_at p (length h.model.stations) s) index_held
      ∙ ap₂ ◌++◌ entry block
    where
      entry : take entry_length (drop (entry_at h.index) s) ≡ encode_entry t
      entry = rw h.bytes (entry_in h.model h.index h.inside) ∙ ap encode_entry h.station

      block : take block_length (drop (block_at (length h.model.stations) h.index) s) ≡ encode_block t.block
      block = rw h.bytes (block_in h.model h.index h.inside) ∙ ap (λ (u : Station). encode_block u.block) h.station

  pub records_long : length (records x s) ≡ entry_length + block_length
  records_long =
      ap length records_held ∙ length-append (encode_entry t) (encode_block t.block) ∙ omega (arith, length_entry t, length_block t.block)

  module _ (lawful : AllLawful) where
    pub holds_own : (c : Call) → names x c ≡ true → HoldsStation d x (station_of (done_by d (ask c) t) t) (step c s).store
    holds_own c e =
        subst (λ (o : Outcome). HoldsStation d x (station_of (done_by d (ask c) t) t) o.store) (sym (step_own c e)) (done (done_by d (ask c) t) refl)
      where
        done : (r : Effect) → done_by d (ask c) t ≡ r → HoldsStation d x (station_of r t) (after r h.index h.model s).store
        done (keeps a) q = h
        done (makes u) q =
            let k = kept_by lawful c d t u held_valid q in
            put h.index u u (rw h.station k) (with_same h.index u h.model h.inside) (k.number ∙ h.named)

    pub holds_other : (c : Call) → names x c ≡ false → HoldsStation d x t (step c s).store
    holds_other c f =
        subst (λ (o : Outcome). HoldsStation d x t o.store) (sym (step_held c)) (go _ (reacts lawful c h.model h.valid))
      where
        own : names (station_at h.model.stations h.index).number c ≡ names x c
        own = ap (λ (y : ℕ). names y c) (ap (λ (u : Station). u.number) h.station ∙ h.named)

        apart : (j : ℕ) → names (station_at h.model.stations j).number c ≡ true → h.index ≡ j → ⊥
        apart j n i =
            false≢true (sym f ∙ sym own ∙ ap (λ (k : ℕ). names (station_at h.model.stations k).number c) i ∙ n)

        go : (r : Reaction) → Reacts c h.model r → HoldsStation d x t (outcome_in ours r s).store
        go _ (same a) = h
        go _ (replaced j u n k) = put j u t k (with_other j u h.model h.index (apart j n) ∙ h.station) h.named
