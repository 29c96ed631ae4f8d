-- The law that demand 3 asks of the rules, request by request: what a request makes of a valid station has the same number and is valid again.
--     lawful_nil, lawful_settling, lawful_beginning, lawful_stepping, lawful_cell, lawful_day      of themselves
--     lawful_take      a report filed, where the report fits
--     all_lawful       all that a call can ask, where every report that passes fits
-- Assumes nothing.
use mathlib.Core.Path.{◌≡◌, refl, sym, subst}
use mathlib.Core.Bool.{Bool, true, false, cond, ◌&&◌, ◌||◌}
use mathlib.Core.List.{List, [], ◌∷◌, map}
use Prim.Native.Nat.{ℕ, zero, suc, ◌+◌, ◌≤◌, ◌<◌}
use native.Mathlib.Omega.{arith}
use borrow.Author.Tests.{leb-true, leb-false, le-leb}
use lib.Dec.{leb, ltb, eqb, lit≤, lit<}
use lib.ListN.{get_or, set, get_or-map}
use Rattle.laws.proofs.Bools.{Known, is_true, is_false, known, cond_keeps, by_cond}
use Rattle.calendar.specs.Slots.{slot_of}
use Rattle.calendar.proofs.Slots as slots
use Rattle.std.specs.Prelude.{Option, Some, None}
use Rattle.synop_values.specs.Value.{Value, missing, read, humidity, Within}
use Rattle.store_layout.specs.Model.{Station, head_of}
use Rattle.store_layout.specs.Valid.{ValidStation, is_direction, highest_rank, is_rank, is_under_way}
use Rattle.store_layout.proofs.Validity.{head_parts, head_whole, entry_parts, valid_marked, valid_with_slot}
use Rattle.quality.specs.Cell.{none}
use Rattle.quality.specs.Elements.{rain}
use Rattle.quality.specs.Valid.{RawCell}
use Rattle.quality.proofs.Validity.{cell_whole, none_valid, humidity_valid}
use Rattle.synop.specs.Report.{Report, report}
use Rattle.synop.specs.declared.contents.Indicators.{Indicators}
use Rattle.synop.specs.declared.contents.Identification.{Identification}
use Rattle.rules.specs.Calls.{Call, file, settle, begin, step, cell, day, Answer, refused, Request, take_nil, take, settling, beginning, stepping, give_cell, give_day, Ask, unnamed, named, denied, ask, ask_file, deny}
use Rattle.rules.specs.Dry.{is_dry, dry_duration, filed_duration, filed_values}
use Rattle.rules.specs.Rules.{keeps, makes, raw_cell, filed_head, filed_cells, reported, filed, file_at, nil_in, file_in, settled_station, begun_station, portion, rule}
use Rattle.rules.proofs.Kept.{Kept, kept_block, Lawful, AllLawful}
use Rattle.rules.proofs.Settling.{kept_settled, kept_begun, kept_portion}

-- ---- requests that keep the station
never : {a : Answer} {u : Station} → keeps a ≡ makes u → ⊥
never e = let z : ◌≡◌ {A = ℕ} 0 1 = cc in omega arith

pub lawful_nil : (yy gg rank : ℕ) → Lawful (take_nil yy gg rank)
unfolding rule
lawful_nil yy gg rank d t u v e = go (slot_of d.year d.month d.day yy gg) e
  where
    go : (k : Option ℕ) → nil_in k rank t ≡ makes u → Kept t u
    go None q = absurd (never q)
    go (Some k) q = absurd (never q)

pub lawful_cell : (e k : ℕ) → Lawful (give_cell e k)
unfolding rule
lawful_cell e k d t u v q = absurd (never q)

pub lawful_day : Lawful give_day
unfolding rule
lawful_day d t u v q = absurd (never q)

-- ---- settling
pub lawful_settling : Lawful settling
unfolding rule
lawful_settling d t u v q = let e : settled_station d t ≡ u = cc in subst (Kept t) e (kept_settled d t v)

pub lawful_beginning : Lawful beginning
unfolding rule
lawful_beginning d t u v q = let e : begun_station t ≡ u = cc in subst (Kept t) e (kept_begun t v)

pub lawful_stepping : Lawful stepping
unfolding rule
lawful_stepping d t u v q = go (known (is_under_way t.settled))
  where
    go : Known (is_under_way t.settled) → Kept t u
    go (is_true w) = let e : portion d t ≡ u = cc in subst (Kept t) e (kept_portion d t w v)
    go (is_false w) = absurd (never (rw w at q))

-- ---- a report filed
-- what a report holds can stand in a store: "iR 0 to 4, else 5; tR 0 to 9; dd 0 to 36 or 99, else 100", and each value in a cell
pub record Fits (head : Indicators) (values : List Value) : Type 0 where
  pub indicator : head.rain_indicator ≤ 5
  pub duration : head.rain_duration ≤ 9
  pub direction : is_direction head.wind_direction ≡ true
  pub value : (e : ℕ) → e < 9 → Within e (get_or values e missing)

-- each report that passes the checks fits
pub record ReportBounds : Type 0 where
  pub fits : (text : List ℕ) (h : Identification) (head : Indicators) (values : List Value) → report text ≡ Report.whole h head values → Fits head values

-- a value as a raw cell of element e
valid_raw : (e : ℕ) (v : Value) → Within e v → RawCell e (raw_cell v)
valid_raw e missing w = none_valid 1 0 e
valid_raw e (read z) w = cell_whole (record { state = refl; flag = lit≤ tt; size = w; empty = refl })
valid_raw e (humidity u) w = subst (λ (d : ℕ). RawCell d (raw_cell (humidity u))) (sym w.0) (humidity_valid 1 0 u w.1 w.2)

raw_at : (values : List Value) (e : ℕ) → get_or (map raw_cell values) e none ≡ raw_cell (get_or values e missing)
raw_at values e = get_or-map raw_cell values e missing

-- S-5: what fits still fits as slot k gets it
set_within : (values : List Value) (j : ℕ) (v : Value) (e : ℕ) (W : ℕ → Value → Type 0) → W j v → W e (get_or values e missing)
    → W e (get_or (set values j v) e missing)
set_within [] j v e W p q = q
set_within (x ∷ values) zero v zero W p q = p
set_within (x ∷ values) zero v (suc e) W p q = q
set_within (x ∷ values) (suc j) v zero W p q = q
set_within (x ∷ values) (suc j) v (suc e) W p q = set_within values j v e (λ n. W (suc n)) p q

duration_fits : (k : ℕ) (h : Indicators) → h.rain_duration ≤ 9 → filed_duration k h ≤ 9
duration_fits k h l =
    let P : ℕ → Type 0 = λ n. n ≤ 9 in
    cond_keeps P (is_dry h)
    (cond_keeps P (eqb k 0 || eqb k 4 || eqb k 8) (lit≤ tt) (cond_keeps P (eqb k 2 || eqb k 6) (lit≤ tt) (lit≤ tt))) l

value_fits : (k : ℕ) (h : Indicators) (values : List Value) → ((e : ℕ) → e < 9 → Within e (get_or values e missing)) → (e : ℕ) → e < 9
    → Within e (get_or (filed_values k h values) e missing)
value_fits k h values f e l =
    set_within values rain _ e Within
    (cond_keeps (Within rain) (is_dry h) (cond_keeps (Within rain) (eqb (dry_duration k) 0) tt (lit≤ tt)) (f rain (lit< tt)))
    (f e l)

-- S-6: a report leaves a settling under way, or none where there is none
reported_most : (n : ℕ) → n ≤ 9 → reported n ≤ 9
reported_most n l =
    by_cond (λ (m : ℕ). m ≤ 9) (is_under_way n) (λ e. by_cond (λ (m : ℕ). m ≤ 9) (leb 6 n) (λ g. l) (λ g. omega (arith, leb-false 6 n g))) (λ e. lit≤ tt)

reported_under : (n : ℕ) → is_under_way n ≡ is_under_way (reported n)
reported_under n = go (known (is_under_way n)) (known (leb 6 n))
  where
    go : Known (is_under_way n) → Known (leb 6 n) → is_under_way n ≡ is_under_way (reported n)
    go (is_false e) g = rw e
    go (is_true e) (is_true g) = rw (e, g, e)
    go (is_true e) (is_false g) = rw (e, g) (sym (le-leb 2 (n + 4) (omega arith)))

module _ (rank : ℕ) (r : is_rank rank ≡ true) (head : Indicators) (values : List Value) (f : Fits head values) where
  kept_filed : (k : ℕ) (t : Station) → k < 9 → ValidStation t → Kept t (filed k rank head values t)
  unfolding filed
  kept_filed k t b v =
      let copy = (head_of t.block k).copy in
      kept_block _ (reported t.settled) t v
      (valid_marked (reported t.settled) _ (reported_under t.settled)
      (valid_with_slot k (filed_head k rank copy head) (filed_cells k head values) t.block v.block
      (head_whole (filed_head k rank copy head)
      (record {
        filed = lit≤ tt;
        ir = f.indicator;
        tr = duration_fits k head f.duration;
        dd = f.direction;
        rank = leb-true rank highest_rank r;
        unfiled = refl;
        copy = (head_parts (head_of t.block k) (v.block.heads k b)).copy;
      }))
      (λ e l.
      subst (RawCell e) (sym (raw_at (filed_values k head values) e))
      (valid_raw e (get_or (filed_values k head values) e missing) (value_fits k head values f.value e l)))))
      (reported_most t.settled (entry_parts v.entry).settled_most)

  pub lawful_take : (yy gg : ℕ) → Lawful (take yy gg rank head values)
  unfolding rule file_at
  lawful_take yy gg d t u v e = at (slot_of d.year d.month d.day yy gg) refl e
    where
      free : (k : ℕ) → k < 9 → (a b : Bool) → cond a (keeps (refused 13)) (cond b (keeps (refused 8)) (makes (filed k rank head values t))) ≡ makes u → Kept t u
      free k l true b q = absurd (never q)
      free k l false true q = absurd (never q)
      free k l false false q = let e : filed k rank head values t ≡ u = cc in subst (Kept t) e (kept_filed k t l v)

      at : (k : Option ℕ) → slot_of d.year d.month d.day yy gg ≡ k → file_in k rank head values t ≡ makes u → Kept t u
      at None s q = absurd (never q)
      at (Some k) s q =
          let old = head_of t.block k in
          free k (slots.named d.year d.month d.day yy gg k s).below (ltb rank old.rank) (eqb old.filed 1 && eqb rank old.rank) q

-- ---- all that a call can ask
-- a report that a call asks to take has a rank that may stand in a store, and fits
abbrev RequestFits : Request → Type 0
RequestFits (take_nil yy gg rank) = Unit {0}
RequestFits (take yy gg rank head values) = (is_rank rank ≡ true) × Fits head values
RequestFits settling = Unit {0}
RequestFits beginning = Unit {0}
RequestFits stepping = Unit {0}
RequestFits (give_cell e k) = Unit {0}
RequestFits give_day = Unit {0}

abbrev AskFits : Ask → Type 0
AskFits (unnamed n) = Unit {0}
AskFits (named y request) = RequestFits request
AskFits (denied y n) = Unit {0}

-- what is denied for its rank asks for nothing
ranked_fits : (q : Ask) (b : Bool) → (b ≡ true → AskFits q) → AskFits (cond b q (deny 13 q))
ranked_fits q true h = h refl
ranked_fits (unnamed n) false h = tt
ranked_fits (named y request) false h = tt
ranked_fits (denied y n) false h = tt

ask_fits : ReportBounds → (c : Call) → AskFits (ask c)
ask_fits bounds (file text rank) = ranked_fits (ask_file rank (report text)) (is_rank rank) (λ b. go b (report text) refl)
  where
    go : is_rank rank ≡ true → (r : Report) → report text ≡ r → AskFits (ask_file rank r)
    go b (Report.refused n) e = tt
    go b (Report.nil h) e = tt
    go b (Report.whole h head values) e = (b, bounds.fits text h head values e)
ask_fits bounds (settle s) = tt
ask_fits bounds (begin s) = tt
ask_fits bounds (step s) = tt
ask_fits bounds (cell s e k) = tt
ask_fits bounds (day s) = tt

lawful : (request : Request) → RequestFits request → Lawful request
lawful (take_nil yy gg rank) f = lawful_nil yy gg rank
lawful (take yy gg rank head values) f = lawful_take rank f.0 head values f.1 yy gg
lawful settling f = lawful_settling
lawful beginning f = lawful_beginning
lawful stepping f = lawful_stepping
lawful (give_cell e k) f = lawful_cell e k
lawful give_day f = lawful_day

pub all_lawful : ReportBounds → AllLawful
all_lawful bounds = record { asked = λ c x request e. lawful request (subst AskFits e (ask_fits bounds c)) }
