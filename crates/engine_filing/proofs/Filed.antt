-- A report filed at a rank: refused where the rank is above 24.
--     file_high, file_ranked
-- Of the station and the slot that it names, by what the search for them answers.
--     told, nil_missing, nil_found, whole_missing, whole_found, found_station, found_slot
-- Of the text.
--     read_as, unread
-- Assumes nothing.
use mathlib.Core.Path.{◌≡◌, refl, sym, ◌∙◌, ap, subst}
use mathlib.Core.Bool.{Bool, true, false, cond}
use mathlib.Core.List.{List}
use Prim.Native.Nat.{ℕ, ◌<◌}
use Rattle.std.specs.Prelude.{Option, None, Some, Result, Ok, Err}
use Rattle.refusals.specs.Refusals.{number}
use Rattle.refusals.specs.declared.Refusal.{Refusal}
use Rattle.refusals.specs.declared.Refusal.TheVariants.{UnknownStation, NoSlot}
use Rattle.calendar.specs.Slots.{slot_of}
use Rattle.calendar.proofs.Slots as slots
use Rattle.store_layout.specs.Model.{Station, Store, station_at}
use Rattle.store_layout.specs.Layout.{decode}
use Rattle.store_layout.specs.Index.{Index, nowhere, index, index_in, numbers}
use Rattle.store_layout.specs.Sound.{sound}
use Rattle.store_layout.specs.Valid.{is_rank}
use Rattle.rules.specs.Calls.{Answer, refused, accepted, file, Request, Ask, unnamed, named, denied, take_nil, take, ask_file, deny}
use Rattle.rules.specs.Rules.{Effect, keeps, nil_in, file_in, file_at, rule}
use Rattle.rules.specs.Reaction.{date_of}
use Rattle.rules.specs.Step.{unchanged, after, asked, step}
use Rattle.synop.specs.Report as reports
use Rattle.synop.specs.Report.{Report, report, meaning}
use Rattle.store_soundness.specs.Located.{placed}
use Rattle.store_soundness.proofs.Locations.{within}
use Rattle.synop.specs.declared.contents.Identification.{Identification}
use Rattle.synop.specs.declared.contents.Indicators.{Indicators}
use Rattle.synop_values.specs.Value.{Value}
use Rattle.engine_answers.specs.Good.{Good, StationAt}
use Rattle.engine_filing.specs.declared.Place.{Place}
use Rattle.engine_filing.specs.Places.{place_at, place}
use Rattle.engine_answers.specs.Replies.{Did}
use Rattle.engine_answers.proofs.Outcomes.{did_as, step_sound, none_did, at_did}

-- ---- the rank alone
-- what is denied is refused, whatever was asked
asked_denied : (n : ℕ) (q : Ask) (m : Store) (s : List ℕ) → asked (deny n q) m s ≡ unchanged (refused n) s
asked_denied n (unnamed k) m s = refl
asked_denied n (named x d) m s = refl
asked_denied n (denied x k) m s = refl

module _ (text : List ℕ) (rank : ℕ) (s : List ℕ) (h : sound s ≡ true) where
  by_rank : (b : Bool) → is_rank rank ≡ b
      → step (file text rank) s ≡ asked (cond b (ask_file rank (report text)) (deny 13 (ask_file rank (report text)))) (decode s) s
  by_rank b e =
      step_sound (file text rank) s h
      ∙ ap (λ (b : Bool). asked (cond b (ask_file rank (report text)) (deny 13 (ask_file rank (report text)))) (decode s) s) e

  -- above 24
  pub file_high : is_rank rank ≡ false → step (file text rank) s ≡ unchanged (refused 13) s
  file_high e = by_rank false e ∙ asked_denied 13 (ask_file rank (report text)) (decode s) s

  -- one that may stand in a store
  pub file_ranked : is_rank rank ≡ true → step (file text rank) s ≡ asked (ask_file rank (report text)) (decode s) s
  file_ranked e = by_rank true e

-- ---- the station and the slot
-- what the search for them answers: neither, the station alone, or both
module _ (s : List ℕ) (h : Identification) where
  abbrev slot : Option ℕ
  slot = slot_of (decode s).year (decode s).month (decode s).day h.day h.hour

  pub data Told : Result Place Refusal → Type 0 where
    absent : index_in (numbers (decode s)) h.station ≡ nowhere → Told (Err UnknownStation)
    no_slot : (i : ℕ) → index_in (numbers (decode s)) h.station ≡ index i → slot ≡ None → Told (Err NoSlot)
    there : (i k : ℕ) → index_in (numbers (decode s)) h.station ≡ index i → slot ≡ Some k → Told (Ok (record { index = i; slot = k }))

  told_by : (p : Index) → index_in (numbers (decode s)) h.station ≡ p → (k : Option ℕ) → slot ≡ k → Told (place_at (placed p) k)
  told_by nowhere q k z = absent q
  told_by (index i) q None z = no_slot i q z
  told_by (index i) q (Some k) z = there i k q z

  pub told : {r : Result Place Refusal} → r ≡ place (decode s) h → Told r
  told e = subst Told (sym e) (told_by (index_in (numbers (decode s)) h.station) refl slot refl)

  -- what is asked at a slot f of the store's day
  module _ (d : Request) (f : Option ℕ → Station → Effect) (q : (y : Station) → rule (date_of (decode s)) d y ≡ f slot y) where
    at_slot : {i : ℕ} {k : Option ℕ} → index_in (numbers (decode s)) h.station ≡ index i → slot ≡ k → {a : Answer} {t : List ℕ}
        → Did (after (f k (station_at (decode s).stations i)) i (decode s) s) a t → Did (asked (named h.station d) (decode s) s) a t
    at_slot {i} {k} e z w =
        at_did s h.station d e
        (did_as
        (ap (λ (r : Effect). after r i (decode s) s)
        (q (station_at (decode s).stations i) ∙ ap (λ (n : Option ℕ). f n (station_at (decode s).stations i)) z)) w)

    -- neither, or no slot, for which f refuses 7
    missing_did : ((y : Station) → f None y ≡ keeps (refused 7)) → {r : Refusal} → Told (Err r)
        → Did (asked (named h.station d) (decode s) s) (refused (number r)) s
    missing_did g (absent e) = none_did s h.station d e
    missing_did g (no_slot i e z) =
        at_slot e z (did_as (ap (λ (r : Effect). after r i (decode s) s) (g (station_at (decode s).stations i))) (record { answer = refl; left = refl }))

    found_did : {p : Place} → Told (Ok p) → {a : Answer} {t : List ℕ}
        → Did (after (f (Some p.slot) (station_at (decode s).stations p.index)) p.index (decode s) s) a t → Did (asked (named h.station d) (decode s) s) a t
    found_did (there i k e z) w = at_slot e z w

  -- a `NIL`, and a whole report
  module _ (rank : ℕ) where
    as_nil : (y : Station) → rule (date_of (decode s)) (take_nil h.day h.hour rank) y ≡ nil_in slot rank y
    unfolding rule
    as_nil y = refl

    pub nil_missing : {r : Refusal} → Told (Err r) → Did (asked (ask_file rank (reports.nil h)) (decode s) s) (refused (number r)) s
    nil_missing w = missing_did (take_nil h.day h.hour rank) (λ k y. nil_in k rank y) as_nil (λ y. refl) w

    pub nil_found : {p : Place} → Told (Ok p) → Did (asked (ask_file rank (reports.nil h)) (decode s) s) accepted s
    nil_found w = found_did (take_nil h.day h.hour rank) (λ k y. nil_in k rank y) as_nil w (record { answer = refl; left = refl })

    module _ (head : Indicators) (values : List Value) where
      as_whole : (y : Station) → rule (date_of (decode s)) (take h.day h.hour rank head values) y ≡ file_in slot rank head values y
      unfolding rule
      as_whole y = refl

      pub whole_missing : {r : Refusal} → Told (Err r) → Did (asked (ask_file rank (reports.whole h head values)) (decode s) s) (refused (number r)) s
      whole_missing w = missing_did (take h.day h.hour rank head values) (λ k y. file_in k rank head values y) as_whole (λ y. refl) w

      pub whole_found : {p : Place} → Told (Ok p) → {a : Answer} {t : List ℕ}
          → Did (after (file_at p.slot rank head values (station_at (decode s).stations p.index)) p.index (decode s) s) a t
          → Did (asked (ask_file rank (reports.whole h head values)) (decode s) s) a t
      whole_found w d = found_did (take h.day h.hour rank head values) (λ k y. file_in k rank head values y) as_whole w d

  -- the place is one of the store's
  pub found_station : {p : Place} → Told (Ok p) → Good s → StationAt s p.index
  found_station (there i k e z) g = record { good = g; there = within s h.station i e }

  pub found_slot : {p : Place} → Told (Ok p) → p.slot < 9
  found_slot (there i k e z) = (slots.named _ _ _ _ _ k z).below

-- ---- the text
module _ (text : List ℕ) (rank : ℕ) (s : List ℕ) where
  -- the report that it is
  pub read_as : {r : Report} → r ≡ report text → {a : Answer} {t : List ℕ}
      → Did (asked (ask_file rank r) (decode s) s) a t → Did (asked (ask_file rank (report text)) (decode s) s) a t
  read_as e = did_as (ap (λ (r : Report). asked (ask_file rank r) (decode s) s) (sym e))

  pub unread : (r : Refusal) → meaning (Err r) ≡ report text → Did (asked (ask_file rank (report text)) (decode s) s) (refused (number r)) s
  unread r e = read_as e (record { answer = refl; left = refl })
