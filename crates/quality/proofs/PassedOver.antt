-- S-2: "Range, internal, time and fill steps pass over" a humidity; "it is no neighbour for filling or for the time step".
--     settled_passes                after all four steps, a humidity in D's cell stands there as it was filed
--     time_beside, fill_beside      the time and the fill step leave a cell beside a humidity as it is
-- Assumes nothing.
use mathlib.Core.Path.{◌≡◌, refl, sym, ◌∙◌, ap, subst}
use mathlib.Core.Bool.{Bool, true, false, not, cond, ◌&&◌, ◌||◌}
use mathlib.Core.List.{List, []}
use Prim.Native.Nat.{ℕ, ◌+◌, ◌-◌, ◌<◌}
use native.Mathlib.Omega.{arith}
use borrow.Author.Tests.{eqb-true}
use lib.Dec.{eqb, leb, lit<}
use lib.ListN.{length, set}
use lib.Seq.{get_or-set_same, get_or-set_other}
use Rattle.laws.proofs.Bools.{cond_true, cond_false, cond_same, cond_keeps, or_true_left, or_true_right, and_false_left, and_false_right}
use Rattle.laws.proofs.Tables.{length_table, get_d_table}
use Rattle.quality.specs.Cell.{Cell, missing, is_humidity, slot, none}
use Rattle.quality.specs.Elements.{column, temperature, dew_point, wind, maximum, minimum}
use Rattle.quality.specs.Limits.{Limits, limits}
use Rattle.quality.specs.Steps.{passed_over, no_neighbour, range_cell, dew_cell, time_cell, fill_cell, between, range_column, dew_column, wind_column, maximum_below_minimum, suspect_at}
use Rattle.quality.specs.Settled.{range, internal, time_of, time, fill_of, fill, settled}

-- ---- one cell
module _ (c : Cell) (h : is_humidity c ≡ true) where
  passed : passed_over c ≡ true
  passed = or_true_right (missing c) (is_humidity c) h

  there : missing c ≡ false
  there = ap (λ (n : ℕ). eqb n 0) (eqb-true c.state 4 h)

  range_passes : (l : Limits) → range_cell l c ≡ c
  unfolding range_cell
  range_passes l = cond_true _ _ _ passed

  dew_passes : (t : Cell) → dew_cell t c ≡ c
  unfolding dew_cell
  dew_passes t = cond_true _ _ _ (or_true_right (passed_over t) (passed_over c) passed)

  time_passes : (m : Bool) (a b : Cell) → time_cell m a c b ≡ c
  unfolding time_cell
  time_passes m a b = cond_true _ _ _ (or_true_left _ (no_neighbour b) (or_true_right (no_neighbour a) (passed_over c) passed))

  fill_passes : (a b : Cell) → fill_cell a c b ≡ c
  unfolding fill_cell
  fill_passes a b = rw there

  -- ---- a cell x beside it, with b on the other side
  pub time_beside : (m : Bool) (x b : Cell) → (time_cell m c x b ≡ x) × (time_cell m b x c ≡ x)
  unfolding time_cell
  time_beside m x b = (
    cond_true _ _ _ (or_true_left _ (no_neighbour b) (or_true_left _ (passed_over x) passed)),
    cond_true _ _ _ (or_true_right (no_neighbour b || passed_over x) (no_neighbour c) passed),
  )

  pub fill_beside : (x b : Cell) → (fill_cell c x b ≡ x) × (fill_cell b x c ≡ x)
  unfolding fill_cell
  fill_beside x b = (
    cond_false _ _ _ (and_false_left (missing x && not (no_neighbour c)) (not (no_neighbour b)) (and_false_right (missing x) (not (no_neighbour c)) (ap not passed))),
    cond_false _ _ _ (and_false_right (missing x && not (no_neighbour b)) (not (no_neighbour c)) (ap not passed)),
  )

-- ---- D's column through the steps
-- what `between` leaves at a slot whose cell the rule leaves as it is
between_passes : (rule : Cell → Cell → Cell → Cell) (xs : List Cell) (k : ℕ) → k < 9 → ((a b : Cell) → rule a (slot xs k) b ≡ slot xs k) → slot (between rule xs) k ≡ slot xs k
unfolding between
between_passes rule xs k l h =
    get_d_table 9 _ k none l
    ∙ ap (λ (c : Cell). cond (leb 1 k && leb k 7) c (slot xs k)) (h (slot xs (k - 1)) (slot xs (k + 1)))
    ∙ cond_same (leb 1 k && leb k 7) (slot xs k)

-- D's column after the internal step, whatever that does to X and M
module _ (dds : List ℕ) (s : List (List Cell)) (e : length s ≡ 9) where
  abbrev dew : List (List Cell)
  dew = set s dew_point (dew_column (column s temperature) (column s dew_point))

  abbrev base : List (List Cell)
  base = set dew wind (wind_column dds (column s wind))

  of_base : column base dew_point ≡ dew_column (column s temperature) (column s dew_point)
  of_base =
      get_or-set_other dew wind dew_point (wind_column dds (column s wind)) [] (λ q. omega arith)
      ∙ get_or-set_same s dew_point (dew_column (column s temperature) (column s dew_point)) [] (subst (λ (n : ℕ). dew_point < n) (sym e) (lit< tt))

  of_both : column (set (set base maximum (suspect_at 4 (column s maximum))) minimum (suspect_at 0 (column s minimum))) dew_point ≡ dew_column (column s temperature) (column s dew_point)
  of_both =
      get_or-set_other (set base maximum (suspect_at 4 (column s maximum))) minimum dew_point (suspect_at 0 (column s minimum)) [] (λ q. omega arith)
      ∙ get_or-set_other base maximum dew_point (suspect_at 4 (column s maximum)) [] (λ q. omega arith)
      ∙ of_base

  dew_of : column (internal dds s) dew_point ≡ dew_column (column s temperature) (column s dew_point)
  unfolding internal
  dew_of =
      cond_keeps (λ (x : List (List Cell)). column x dew_point ≡ dew_column (column s temperature) (column s dew_point))
      (maximum_below_minimum (slot (column s maximum) 4) (slot (column s minimum) 0)) of_both of_base

-- a humidity at slot k of D's column, in each step
module _ (k : ℕ) (l : k < 9) (c : Cell) (h : is_humidity c ≡ true) where
  in_range : (row : ℕ) (warm : Bool) (s : List (List Cell)) → slot (column s dew_point) k ≡ c → slot (column (range row warm s) dew_point) k ≡ c
  unfolding range range_column
  in_range row warm s e =
      ap (λ (xs : List Cell). slot xs k) (get_d_table 9 _ dew_point [] (lit< tt))
      ∙ get_d_table 9 _ k none l
      ∙ ap (range_cell (limits dew_point row warm)) e
      ∙ range_passes c h (limits dew_point row warm)

  in_internal : (dds : List ℕ) (s : List (List Cell)) → length s ≡ 9 → slot (column s dew_point) k ≡ c → slot (column (internal dds s) dew_point) k ≡ c
  unfolding dew_column
  in_internal dds s n e =
      ap (λ (xs : List Cell). slot xs k) (dew_of dds s n)
      ∙ get_d_table 9 _ k none l
      ∙ ap (dew_cell (slot (column s temperature) k)) e
      ∙ dew_passes c h (slot (column s temperature) k)

  -- a rule that passes over c leaves it in a column
  in_column : (rule : Cell → Cell → Cell → Cell) (xs : List Cell) → slot xs k ≡ c → ((a b : Cell) → rule a c b ≡ c) → slot (between rule xs) k ≡ c
  in_column rule xs e p = between_passes rule xs k l (λ a b. ap (λ (x : Cell). rule a x b) e ∙ p a b ∙ sym e) ∙ e

  in_time : (s : List (List Cell)) → slot (column s dew_point) k ≡ c → slot (column (time s) dew_point) k ≡ c
  unfolding time time_of
  in_time s e = ap (λ (xs : List Cell). slot xs k) (get_d_table 9 _ dew_point [] (lit< tt)) ∙ in_column (time_cell false) (column s dew_point) e (time_passes c h false)

  in_fill : (s : List (List Cell)) → slot (column s dew_point) k ≡ c → slot (column (fill s) dew_point) k ≡ c
  unfolding fill fill_of
  in_fill s e = ap (λ (xs : List Cell). slot xs k) (get_d_table 9 _ dew_point [] (lit< tt)) ∙ in_column fill_cell (column s dew_point) e (fill_passes c h)

length_range : (row : ℕ) (warm : Bool) (s : List (List Cell)) → length (range row warm s) ≡ 9
unfolding range
length_range row warm s = length_table 9 _

pub settled_passes : (row : ℕ) (warm : Bool) (dds : List ℕ) (raw : List (List Cell)) (k : ℕ) → k < 9 → is_humidity (slot (column raw dew_point) k) ≡ true
    → slot (column (settled row warm dds raw) dew_point) k ≡ slot (column raw dew_point) k
unfolding settled
settled_passes row warm dds raw k l h =
    let c = slot (column raw dew_point) k in
    in_fill k l c h (time (internal dds (range row warm raw)))
    (in_time k l c h (internal dds (range row warm raw)) (in_internal k l c h dds (range row warm raw) (length_range row warm raw) (in_range k l c h row warm raw refl)))
