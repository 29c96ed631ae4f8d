-- "When the fourth step ends, the checked cells are those of the raw cells and dd at begin, and S is settled exactly if no report for S but
-- NIL was accepted since."
--     count_naming, some_naming      of a log, the calls that name the station count alone
--     begun_held                     what begin leaves
--     in_portions                    the theorem
-- Assumes nothing.
use mathlib.Core.Path.{◌≡◌, refl, sym, ◌∙◌, ap, ap₂, subst}
use mathlib.Core.Bool.{Bool, true, false, cond, ◌&&◌, false≢true}
use mathlib.Core.List.{List, [], ◌∷◌, map}
use Prim.Native.Nat.{ℕ, zero, suc, ◌+◌, ◌<◌}
use native.Mathlib.Omega.{arith}
use borrow.Author.Tests.{le-leb, lt-leb, eq-eqb}
use lib.Dec.{ltb, eqb}
use lib.ListN.{get_or, set}
use Rattle.laws.proofs.Bools.{Known, is_true, is_false, known, cond_keeps}
use Rattle.calendar.specs.Slots.{slot_of}
use Rattle.std.specs.Prelude.{Option, Some, None}
use Rattle.quality.specs.Cell.{Cell}
use Rattle.quality.specs.Limits.{warm}
use Rattle.quality.specs.Settled.{settled, one_step}
use Rattle.quality.specs.declared.head.SlotHead.{SlotHead}
use Rattle.quality.specs.declared.step.Step.{Step}
use Rattle.quality.specs.declared.step.Step.TheVariants.{Fill}
use Rattle.store_layout.specs.Model.{Station, unfiled, head_of}
use Rattle.store_layout.specs.Valid.{is_under_way}
use Rattle.store_layout.specs.Layout.{decode}
use Rattle.store_layout.specs.Framed.{Bytes}
use Rattle.store_layout.specs.Sound.{sound}
use Rattle.store_layout.specs.Form.{ours}
use Rattle.store_layout.specs.Index.{Index, nowhere, index, index_in, numbers}
use Rattle.store_layout.proofs.Soundness.{sound_valid, sound_encoded}
use Rattle.store_layout.proofs.Indices.{found}
use Rattle.store_layout.specs.Updates.{with_slot, with_checked, with_copies, with_block}
use Rattle.synop_values.specs.Value.{Value}
use Rattle.synop.specs.declared.contents.Indicators.{Indicators}
use Rattle.rules.specs.Calls as calls
use Rattle.rules.specs.Calls.{Call, begin, refused, accepted, is_accepted, Request, take_nil, take, settling, beginning, stepping, give_cell, give_day, Ask, unnamed, named, denied, ask}
use Rattle.rules.specs.Rules.{Date, Effect, filed_head, reported, filed, file_at, nil_in, file_in, directions, copies, with_mark, with_copies_mark, copy_step, step_done, begun_station, due, onward, gone_on, portion, rule}
use Rattle.rules.specs.Step.{Outcome, step}
use Rattle.rules.specs.Runs.{Logged, log, left, asks, names, naming_log}
use Rattle.rules.specs.Reaction.{date_of}
use Rattle.rules.specs.Portions.{is_restart, is_stepping, is_report, of_station, granted, count, some, undisturbed, station_for, station_in, InPortions}
use Rattle.rules.proofs.Kept.{AllLawful, done_by}
use Rattle.rules.proofs.Settling.{copies_begun}
use Rattle.rules.proofs.Holding.{HoldsStation, answer_of, station_of, answer_own, station_held, holds_own, holds_other}
use Rattle.rules.proofs.Forms as forms

-- ---- a call that does not name x is no request of it
of_other : (p : Request → Bool) (x : ℕ) (q : Ask) → asks q x ≡ false → of_station p x q ≡ false
of_other p x (unnamed m) e = refl
of_other p x (named y request) e = rw e
of_other p x (denied y m) e = refl

-- so the calls that name it count alone
module _ (p : Request → Bool) (x : ℕ) where
  pub count_naming : (ls : List Logged) → count (granted p x) ls ≡ count (granted p x) (naming_log x ls)
  unfolding count naming_log
  count_naming [] = refl
  count_naming (l ∷ ls) = go (known (names x l.call)) (count_naming ls)
    where
      go : Known (names x l.call) → count (granted p x) ls ≡ count (granted p x) (naming_log x ls)
          → count (granted p x) (l ∷ ls) ≡ count (granted p x) (naming_log x (l ∷ ls))
      go (is_true e) r = rw e (ap (λ (n : ℕ). cond (granted p x l) (suc n) n) r)
      go (is_false e) r = rw (e, of_other p x (ask l.call) e) r

  pub some_naming : (ls : List Logged) → some (granted p x) ls ≡ some (granted p x) (naming_log x ls)
  unfolding some naming_log
  some_naming [] = refl
  some_naming (l ∷ ls) = go (known (names x l.call)) (some_naming ls)
    where
      go : Known (names x l.call) → some (granted p x) ls ≡ some (granted p x) (naming_log x ls)
          → some (granted p x) (l ∷ ls) ≡ some (granted p x) (naming_log x (l ∷ ls))
      go (is_true e) r = rw e (ap (λ (b : Bool). cond (granted p x l) true b) r)
      go (is_false e) r = rw (e, of_other p x (ask l.call) e) r

-- ---- a station on the way: begun with that row, those dd and that raw sheet, then n steps; r says whether a report came since
module _ (d : Date) (row : ℕ) (dds : List ℕ) (raw : List (List Cell)) where
  -- the checked sheet after n steps
  stage : ℕ → List (List Cell)
  stage zero = raw
  stage (suc n) = one_step (due (2 + n)) row (warm d.month) dds (stage n)

  all_four : stage 4 ≡ settled row (warm d.month) dds raw
  unfolding stage settled
  all_four = refl

  record UnderWay (n : ℕ) (r : Bool) (t : Station) : Type 0 where
    pub row_kept : t.row ≡ row
    pub mark : t.settled ≡ 2 + n + cond r 4 0
    pub copied : copies t.block ≡ dds
    pub checked : t.block.checked ≡ stage n

  -- ---- a step
  due_on : (n : ℕ) (r : Bool) → n < 4 → due (2 + n + cond r 4 0) ≡ due (2 + n)
  due_on zero true l = refl
  due_on zero false l = refl
  due_on (suc zero) true l = refl
  due_on (suc zero) false l = refl
  due_on (suc (suc zero)) true l = refl
  due_on (suc (suc zero)) false l = refl
  due_on (suc (suc (suc zero))) true l = refl
  due_on (suc (suc (suc zero))) false l = refl
  due_on (suc (suc (suc (suc n)))) r l = absurd (omega arith)

  -- another is due after it
  gone_on_marks : (n m : ℕ) (u : Station) → n < 3 → gone_on (due (2 + n)) m u ≡ with_mark (suc m) u
  gone_on_marks zero m u l = refl
  gone_on_marks (suc zero) m u l = refl
  gone_on_marks (suc (suc zero)) m u l = refl
  gone_on_marks (suc (suc (suc n))) m u l = absurd (omega arith)

  module _ (n : ℕ) (r : Bool) (t : Station) (h : UnderWay n r t) where
    due_here : n < 4 → due t.settled ≡ due (2 + n)
    due_here l = ap due h.mark ∙ due_on n r l

    portion_here : n < 4 → portion d t ≡ gone_on (due (2 + n)) t.settled (step_done (due (2 + n)) d dds t)
    unfolding portion
    portion_here l = ap₂ (λ (s : Step) (ns : List ℕ). gone_on s t.settled (step_done s d ns t)) (due_here l) h.copied

    -- the checked sheet after the step that is due
    checked_here : one_step (due (2 + n)) t.row (warm d.month) dds t.block.checked ≡ stage (suc n)
    unfolding stage
    checked_here = ap₂ (λ (k : ℕ) (s : List (List Cell)). one_step (due (2 + n)) k (warm d.month) dds s) h.row_kept h.checked

    stepped_on : UnderWay (suc n) r (with_mark (suc t.settled) (step_done (due (2 + n)) d dds t))
    unfolding step_done with_block with_checked
    stepped_on = record { row_kept = h.row_kept; mark = omega (arith, h.mark); copied = h.copied; checked = checked_here }

    one_more : n < 3 → UnderWay (suc n) r (portion d t)
    one_more l =
        subst (UnderWay (suc n) r) (sym (portion_here (omega arith) ∙ gone_on_marks n t.settled (step_done (due (2 + n)) d dds t) l)) stepped_on

    under_way : is_under_way t.settled ≡ true
    under_way = le-leb 2 t.settled (omega (arith, h.mark))

    -- ---- a report
    -- it leaves the copies
    copies_put : (hs : List SlotHead) (k : ℕ) (g : SlotHead) → g.copy ≡ (get_or hs k unfiled).copy
        → map (λ (h : SlotHead). h.copy) (set hs k g) ≡ map (λ (h : SlotHead). h.copy) hs
    copies_put [] k g e = refl
    copies_put (x ∷ hs) zero g e = ap (λ (c : ℕ). c ∷ map (λ (h : SlotHead). h.copy) hs) e
    copies_put (x ∷ hs) (suc k) g e = ap (λ (cs : List ℕ). x.copy ∷ cs) (copies_put hs k g e)

    reported_on : n < 4 → (r : Bool) → reported (2 + n + cond r 4 0) ≡ 2 + n + 4
    reported_on l true = rw (le-leb 2 (2 + n + 4) (omega arith), le-leb 6 (2 + n + 4) (omega arith))
    reported_on l false = rw (le-leb 2 (2 + n + 0) (omega arith), lt-leb 6 (2 + n + 0) (omega arith)) (omega arith)

    filed_on : (k rank : ℕ) (head : Indicators) (values : List Value) → n < 4 → UnderWay n true (filed k rank head values t)
    unfolding filed with_block with_slot
    filed_on k rank head values l =
        record {
          row_kept = h.row_kept;
          mark = ap reported h.mark ∙ reported_on l r;
          copied = copies_put t.block.heads k (filed_head k rank (head_of t.block k).copy head) refl ∙ h.copied;
          checked = h.checked;
        }

  -- ---- the fourth step
  ended_on : (r : Bool) → onward Fill (5 + cond r 4 0) ≡ cond r 0 1
  ended_on true = refl
  ended_on false = refl

  record Ended (r : Bool) (u : Station) : Type 0 where
    pub checked : u.block.checked ≡ settled row (warm d.month) dds raw
    pub mark : u.settled ≡ cond r 0 1

  last_step : (r : Bool) (t : Station) → UnderWay 3 r t → Ended r (portion d t)
  unfolding step_done with_block with_checked with_copies
  last_step r t h = subst (Ended r) (sym (portion_here 3 r t h (omega arith))) gone
    where
      gone : Ended r (with_copies_mark (λ h. 0) (onward Fill t.settled) (step_done (due 5) d dds t))
      gone = record { checked = checked_here 3 r t h ∙ all_four; mark = ap (onward Fill) h.mark ∙ ended_on r }

  -- ---- any request but another begin or settle
  -- what its effect makes of the station: whether it was a step, or a report, that was accepted
  abbrev steps_on : Request → Effect → Bool
  steps_on request e = is_stepping request && is_accepted (answer_of e)

  abbrev reports_on : Request → Effect → Bool
  reports_on request e = is_report request && is_accepted (answer_of e)

  module _ (n : ℕ) (r : Bool) (t : Station) (h : UnderWay n r t) (l : n < 4) where
    abbrev Moved : Request → Effect → Type 0
    Moved request e = UnderWay (cond (steps_on request e) (suc n) n) (cond (reports_on request e) true r) (station_of e t)

    moved_in : (k : Option ℕ) (yy gg rank : ℕ) (head : Indicators) (values : List Value) → Moved (take yy gg rank head values) (file_in k rank head values t)
    unfolding file_at
    moved_in None yy gg rank head values = h
    moved_in (Some k) yy gg rank head values =
        let old = head_of t.block k in
        let M : Effect → Type 0 = Moved (take yy gg rank head values) in
        cond_keeps M (ltb rank old.rank) h
        (cond_keeps M (eqb old.filed 1 && eqb rank old.rank) h (filed_on n r t h k rank head values l))

    moved_by_nil : (k : Option ℕ) (yy gg rank : ℕ) → Moved (take_nil yy gg rank) (nil_in k rank t)
    moved_by_nil None yy gg rank = h
    moved_by_nil (Some k) yy gg rank = h

    moved : (request : Request) → is_restart request ≡ false → (steps_on request (rule d request t) ≡ true → n < 3) → Moved request (rule d request t)
    unfolding rule
    moved (take_nil yy gg rank) e f = moved_by_nil (slot_of d.year d.month d.day yy gg) yy gg rank
    moved (take yy gg rank head values) e f = moved_in (slot_of d.year d.month d.day yy gg) yy gg rank head values
    moved settling e f = absurd (false≢true (sym e))
    moved beginning e f = absurd (false≢true (sym e))
    moved stepping e f = rw (under_way n r t h) (one_more n r t h (f (rw (under_way n r t h))))
    moved (give_cell e' k) e f = h
    moved give_day e f = h

  -- ---- what is asked by a call that names the station
  module _ (x : ℕ) where
    module _ (n : ℕ) (r : Bool) (t : Station) (h : UnderWay n r t) (l : n < 4) where
      -- what a call that names it makes of the station, by what it asks
      abbrev grants : (Request → Bool) → Ask → Bool
      grants p q = of_station p x q && is_accepted (answer_of (done_by d q t))

      moved_by : (q : Ask) → asks q x ≡ true → of_station is_restart x q ≡ false → (grants is_stepping q ≡ true → n < 3)
          → UnderWay (cond (grants is_stepping q) (suc n) n) (cond (grants is_report q) true r) (station_of (done_by d q t) t)
      moved_by (unnamed m) a e f = absurd (false≢true a)
      moved_by (named y request) a e f = rw a (moved n r t h l request (rw a at e) (λ g. f (rw a g)))
      moved_by (denied y m) a e f = h

    -- ---- a run
    record Came (r : Bool) (s : List ℕ) (cs : List Call) : Type 0 where
      pub station : Station
      pub holds : HoldsStation d x station (left step cs s)
      pub at : UnderWay 3 (cond (some (granted is_report x) (log step cs s)) true r) station

    -- counts and reports, call by call
    count_on : (b : Bool) (k n : ℕ) → cond b (suc k) k + n ≡ 3 → k + cond b (suc n) n ≡ 3
    count_on true k n e = omega arith
    count_on false k n e = e

    some_on : (b c r : Bool) → cond c true (cond b true r) ≡ cond (cond b true c) true r
    some_on true true r = refl
    some_on true false r = refl
    some_on false c r = refl

    fewer : (b : Bool) (k n : ℕ) → cond b (suc k) k + n ≡ 3 → b ≡ true → n < 3
    fewer true k n e f = omega arith
    fewer false k n e f = absurd (false≢true f)

    at_most : (k n : ℕ) → k + n ≡ 3 → n < 4
    at_most k n e = omega arith

    module _ (lawful : AllLawful) where
      came : (cs : List Call) (s : List ℕ) (t : Station) (n : ℕ) (r : Bool) → HoldsStation d x t s → UnderWay n r t → undisturbed x cs ≡ true
          → count (granted is_stepping x) (log step cs s) + n ≡ 3 → Came r s cs
      unfolding left log count some undisturbed
      came [] s t n r k h u e =
          let z : n ≡ 3 = omega arith in
          record { station = t; holds = k; at = subst (λ (m : ℕ). UnderWay m r t) z h }
      came (c ∷ cs) s t n r k h u e = go (known (names x c)) (λ t' n' r'. came cs (step c s).store t' n' r')
        where
          -- the first call with its answer, and the log of the others
          l : Logged
          l = record { call = c; answer = (step c s).answer }

          ls : List Logged
          ls = log step cs (step c s).store

          -- the run of the others, from wherever the first one led
          Rest : Type 0
          Rest = (t' : Station) (n' : ℕ) (r' : Bool) → HoldsStation d x t' (step c s).store → UnderWay n' r' t' → undisturbed x cs ≡ true
              → count (granted is_stepping x) ls + n' ≡ 3 → Came r' (step c s).store cs

          onward : (t' : Station) → HoldsStation d x t' (step c s).store
              → UnderWay (cond (granted is_stepping x l) (suc n) n) (cond (granted is_report x l) true r) t' → of_station is_restart x (ask c) ≡ false
              → Rest → Came r s (c ∷ cs)
          onward t' k' h' q rest =
              let w = rest t' _ _ k' h' (rw q at u) (count_on (granted is_stepping x l) (count (granted is_stepping x) ls) n e) in
              record {
                station = w.station;
                holds = w.holds;
                at = subst (λ (b : Bool). UnderWay 3 b w.station) (some_on (granted is_report x l) (some (granted is_report x) ls) r) w.at;
              }

          own : names x c ≡ true → of_station is_restart x (ask c) ≡ false
              → UnderWay (cond (granted is_stepping x l) (suc n) n) (cond (granted is_report x l) true r) (station_of (done_by d (ask c) t) t)
          own f q =
              rw (answer_own k c f)
              (moved_by n r t h (at_most _ n e) (ask c) f q
              (λ g. fewer (granted is_stepping x l) (count (granted is_stepping x) ls) n e (rw (answer_own k c f) g)))

          go : Known (names x c) → Rest → Came r s (c ∷ cs)
          go (is_false f) rest =
              onward t (holds_other k lawful c f) (rw (of_other is_stepping x (ask c) f, of_other is_report x (ask c) f) h) (of_other is_restart x (ask c) f) rest
          go (is_true f) rest =
              elim (known (of_station is_restart x (ask c))) [
                | is_true q ↦ absurd (false≢true (rw q at u))
                | is_false q ↦ onward (station_of (done_by d (ask c) t) t) (holds_own k lawful c f) (own f q) q rest
              ]

-- ---- from an accepted begin on
-- the station stands in the store
begun_holds : (x : ℕ) (s : List ℕ) → Bytes s → (step (begin x) s).answer ≡ accepted → HoldsStation (date_of (decode s)) x (station_in x s) s
unfolding station_in
begun_holds x s b e = go (known (sound s))
  where
    never : {n : ℕ} {o : Outcome} → step (begin x) s ≡ o → o.answer ≡ refused n → ⊥
    never q r = let z : refused _ ≡ accepted = sym r ∙ sym (ap (λ (o : Outcome). o.answer) q) ∙ e in let y : ◌≡◌ {A = ℕ} 0 1 = cc in omega arith

    at : (t : sound s ≡ true) (p : Index) → index_in (numbers (decode s)) x ≡ p → HoldsStation (date_of (decode s)) x (station_for p (decode s)) s
    at t nowhere q = absurd (never {n = 6} (forms.step_sound ours (begin x) s t) (rw q))
    at t (index i) q =
        let f = found (decode s) x i q in
        record {
          model = decode s;
          valid = sound_valid s b t;
          bytes = sym (sound_encoded s b t);
          date = refl;
          index = i;
          inside = f.inside;
          station = refl;
          named = f.named;
        }

    go : Known (sound s) → HoldsStation (date_of (decode s)) x (station_for (index_in (numbers (decode s)) x) (decode s)) s
    go (is_false f) = absurd (never {n = 9} (forms.step_unsound ours (begin x) s f) refl)
    go (is_true t) = at t (index_in (numbers (decode s)) x) refl

flat : (b : Bool) → ◌≡◌ {A = ℕ} (cond (cond b true false) 0 1) (cond b 0 1)
flat true = refl
flat false = refl

module _ (d : Date) (t : Station) where
  -- what begin leaves
  begun_on : UnderWay d t.row (directions t.block) t.block.raw 0 false (begun_station t)
  unfolding begun_station copy_step stage with_block with_checked with_copies
  begun_on = record { row_kept = refl; mark = refl; copied = copies_begun t.block.heads; checked = refl }

  module _ (x : ℕ) (s : List ℕ) (k : HoldsStation d x t s) (lawful : AllLawful) where
    named_own : eqb x x ≡ true
    named_own = eq-eqb x x refl

    pub begun_held : HoldsStation d x (begun_station t) (step (begin x) s).store
    unfolding rule
    begun_held = holds_own k lawful (begin x) named_own

  module _ (x : ℕ) (s : List ℕ) (lawful : AllLawful) (u : Station) (k : HoldsStation d x u s) (r : Bool)
      (h : UnderWay d t.row (directions t.block) t.block.raw 3 r u) where
    fourth_on : ((step (calls.step x) s).answer ≡ accepted) × (station_in x (step (calls.step x) s).store ≡ portion d u)
    unfolding rule
    fourth_on =
        let w = under_way d t.row (directions t.block) t.block.raw 3 r u h in (
          answer_own k (calls.step x) (eq-eqb x x refl) ∙ rw w,
          station_held (holds_own k lawful (calls.step x) (eq-eqb x x refl)) ∙ rw w,
        )

pub in_portions : AllLawful → InPortions step
unfolding left
in_portions lawful =
    record {
      ends = λ x s cs b e u n.
          let t = station_in x s in
          let d = date_of (decode s) in
          let w =
          came d t.row (directions t.block) t.block.raw x lawful cs (step (begin x) s).store (begun_station t) 0 false
          (begun_held d t x s (begun_holds x s b e) lawful) (begun_on d t) u (omega (arith, n))
          in
          let f = fourth_on d t x (left step cs (step (begin x) s).store) lawful w.station w.holds _ w.at in
          let o = last_step d t.row (directions t.block) t.block.raw _ w.station w.at in
          record {
            fourth = f.0;
            checked = ap (λ (v : Station). v.block.checked) f.1 ∙ o.checked;
            mark = ap (λ (v : Station). v.settled) f.1 ∙ o.mark ∙ flat (some (granted is_report x) (log step cs (step (begin x) s).store));
          };
    }
