-- Every step keeps valid cells valid: state 0 to 3 or a humidity in D's, flag 0 to 4, value of −32767 to 32767, and 0 where missing.
--     cell_parts, cell_whole        what the test of a cell asks
--     state_most                    a valid cell's state is 4 at most
--     none_valid, raw_valid         a missing cell without a flag; raw cells are valid ones
--     column_valid, sheet_valid     columns and sheets from their cells
--     column_sized                  what the time step asks of a column
--     range_keeps, internal_keeps, time_keeps, fill_keeps, settled_keeps
-- Assumes nothing.
use mathlib.Core.Path.{◌≡◌, refl, sym, ◌∙◌, ap, subst}
use mathlib.Core.Bool.{Bool, true, not, ◌&&◌, ◌||◌}
use mathlib.Core.List.{List, []}
use Prim.Native.Nat.{ℕ, ◌+◌, ◌-◌, ◌<◌, ◌≤◌}
use native.Mathlib.Decide.{ℕ_discrete}
use native.Mathlib.Omega.{arith}
use borrow.Author.Tests.{leb-true, le-leb, eqb-true, ne_eqb}
use lib.Dec.{eqb, leb, lit<, lit≤}
use lib.IntN.{ℤ, pos, neg_ℤ, nat_abs, ◌+ℤ◌}
use lib.Signed.{lt_z, shr_z}
use lib.ListN.{get_or, set, length-set}
use Rattle.laws.specs.Table.{table}
use Rattle.laws.proofs.Bools.{and_true, Known, is_true, is_false, known, four, and_left, and_right, or_true_left, or_true_right, or_second, cond_keeps}
use Rattle.laws.proofs.Tables.{length_table, get_d_table, set_each}
use Rattle.laws.proofs.Offset.{size_negative, size_middle}
use Rattle.quality.specs.Cell.{Cell, missing, is_percent, is_humidity, discarded, flagged, slot, none}
use Rattle.quality.specs.Elements.{column, temperature, dew_point, pressure, wind, maximum, minimum}
use Rattle.quality.specs.Limits.{Limits, limits}
use Rattle.quality.specs.Steps.{passed_over, no_neighbour, range_cell, dew_cell, wind_cell, is_zero, far, near, maximum_below_minimum, spike_cell, time_cell, fill_cell, between, range_column, dew_column, wind_column, suspect_at}
use Rattle.quality.specs.Settled.{range, internal, time_of, time, fill_of, fill, settled}
use Rattle.quality.specs.Valid.{holds_humidity, is_cell, CellWithin, ValidCell, ColumnWithin, ValidColumn, SheetWithin, ValidSheet, RawCell, RawSheet, Sized}
use Rattle.quality.proofs.Between.{ruled}

-- ---- a cell's test, taken apart and put together
pub record CellParts (states flags e : ℕ) (c : Cell) : Type 0 where
  pub state : (leb c.state states || holds_humidity e c) ≡ true
  pub flag : c.flag ≤ flags
  pub size : nat_abs c.value ≤ 32767
  pub empty : (not (missing c) || is_zero c.value) ≡ true

module _ {states flags e : ℕ} {c : Cell} where
  pub cell_parts : CellWithin states flags e c → CellParts states flags e c
  unfolding is_cell
  cell_parts w =
      let p = four w.test in
      record { state = p.0; flag = leb-true _ _ p.1; size = leb-true _ _ p.2; empty = p.3 }

  pub cell_whole : CellParts states flags e c → CellWithin states flags e c
  unfolding is_cell
  cell_whole p = record { test = rw (p.state, le-leb _ _ p.flag, le-leb _ _ p.size) p.empty }

-- an ordinary state, none above the largest
ordinary : (states e : ℕ) (c : Cell) → c.state ≤ states → (leb c.state states || holds_humidity e c) ≡ true
ordinary states e c l = or_true_left _ _ (le-leb _ _ l)

pub none_valid : (states flags e : ℕ) → CellWithin states flags e none
none_valid states flags e = cell_whole (record { state = ordinary states e none (omega arith); flag = omega arith; size = lit≤ tt; empty = refl })

-- a humidity in D's cell
pub humidity_valid : (states flags u : ℕ) → 1 ≤ u → u ≤ 100 → CellWithin states flags dew_point (record { state = 4; flag = 0; value = pos u })
humidity_valid states flags u l h =
    cell_whole
    (record {
      state = or_true_right (leb 4 states) _ (and_true _ _ (le-leb _ u (omega (arith, l))) (le-leb u _ (omega (arith, h))));
      flag = omega arith;
      size = omega arith;
      empty = refl;
    })

-- a valid cell's state is 4 at most
pub state_most : (e : ℕ) (c : Cell) → ValidCell e c → c.state ≤ 4
state_most e c v = go (known (leb c.state 3))
  where
    four : holds_humidity e c ≡ true → c.state ≡ 4
    four h = eqb-true c.state 4 (and_right (eqb e dew_point) (is_humidity c) (and_left (eqb e dew_point && is_humidity c) (is_percent c.value) h))

    go : Known (leb c.state 3) → c.state ≤ 4
    go (is_true t) = omega (arith, leb-true c.state 3 t)
    go (is_false f) = omega (arith, four (or_second f (cell_parts v).state))

-- a state that may stand under one largest state may under a larger one
wider : (few many e : ℕ) (c : Cell) → few ≤ many → (leb c.state few || holds_humidity e c) ≡ true → (leb c.state many || holds_humidity e c) ≡ true
wider few many e c w h = go (known (leb c.state few))
  where
    go : Known (leb c.state few) → (leb c.state many || holds_humidity e c) ≡ true
    go (is_true t) = ordinary many e c (omega (arith, leb-true c.state few t))
    go (is_false f) = or_true_right (leb c.state many) (holds_humidity e c) (or_second f h)

-- what may stand in a raw cell may stand in a checked one
pub raw_valid : (e : ℕ) (c : Cell) → RawCell e c → ValidCell e c
raw_valid e c r =
    let p = cell_parts r in
    cell_whole (record { state = wider 1 3 e c (lit≤ tt) p.state; flag = omega (arith, p.flag); size = p.size; empty = p.empty })

-- ---- cells
module _ {e : ℕ} where
  pub discarded_valid : (f : ℕ) → f ≤ 4 → ValidCell e (discarded f)
  discarded_valid f h = cell_whole (record { state = ordinary 3 e (discarded f) (lit≤ tt); flag = h; size = omega arith; empty = refl })

  pub flagged_valid : (f : ℕ) (c : Cell) → f ≤ 4 → ValidCell e c → ValidCell e (flagged f c)
  flagged_valid f c h v = let p = cell_parts v in cell_whole (record { state = p.state; flag = h; size = p.size; empty = p.empty })

  -- a cell with a value
  valued : (s f : ℕ) (z : ℤ) → 1 ≤ s → s ≤ 3 → f ≤ 4 → nat_abs z ≤ 32767 → ValidCell e (record { state = s; flag = f; value = z })
  valued s f z l u h k = cell_whole (record { state = ordinary 3 e (record { state = s; flag = f; value = z }) u; flag = h; size = k; empty = or_true_left _ _ (ap not (ne_eqb s 0 (λ q. omega arith))) })

  pub range_valid : (l : Limits) (c : Cell) → ValidCell e c → ValidCell e (range_cell l c)
  unfolding range_cell
  range_valid l c v =
      cond_keeps (ValidCell e) (passed_over c) v
      (cond_keeps (ValidCell e) (lt_z c.value l.min2 || lt_z l.max2 c.value) (discarded_valid 1 (lit≤ tt))
      (cond_keeps (ValidCell e) (lt_z c.value l.min1 || lt_z l.max1 c.value) (flagged_valid 4 c (lit≤ tt) v) v))

  pub dew_valid : (t d : Cell) → ValidCell e d → ValidCell e (dew_cell t d)
  unfolding dew_cell
  dew_valid t d v =
      cond_keeps (ValidCell e) (passed_over t || passed_over d) v (cond_keeps (ValidCell e) (lt_z t.value d.value) (discarded_valid 2 (lit≤ tt)) v)

  pub wind_valid : (dd : ℕ) (w : Cell) → ValidCell e w → ValidCell e (wind_cell dd w)
  unfolding wind_cell
  wind_valid dd w v =
      cond_keeps (ValidCell e) (passed_over w) v
      (cond_keeps (ValidCell e) ((eqb dd 0 && lt_z (pos 0) w.value) || (leb 1 dd && leb dd 36 && is_zero w.value)) (flagged_valid 4 w (lit≤ tt) v) v)

  odd_valid : (m : Bool) (a x b : Cell) → ValidCell e x → ValidCell e (spike_cell m a x b)
  unfolding spike_cell
  odd_valid m a x b v =
      cond_keeps (ValidCell e) (m && near (neg_ℤ x.value) a.value && near (neg_ℤ x.value) b.value)
      (valued 2 3 (neg_ℤ x.value) (lit≤ tt) (lit≤ tt) (lit≤ tt) (subst (λ (n : ℕ). n ≤ 32767) (sym (size_negative x.value)) (cell_parts v).size))
      (discarded_valid 3 (lit≤ tt))

  pub time_valid : (m : Bool) (a x b : Cell) → ValidCell e a → ValidCell e x → ValidCell e b → ValidCell e (time_cell m a x b)
  unfolding time_cell
  time_valid m a x b va v vb =
      cond_keeps (ValidCell e) (no_neighbour a || passed_over x || no_neighbour b) v
      (cond_keeps (ValidCell e) (far x.value a.value && far x.value b.value) (odd_valid m a x b v) v)

  pub fill_valid : (a x b : Cell) → ValidCell e a → ValidCell e x → ValidCell e b → ValidCell e (fill_cell a x b)
  unfolding fill_cell
  fill_valid a x b va v vb =
      cond_keeps (ValidCell e) (missing x && not (no_neighbour a) && not (no_neighbour b))
      (valued 3 x.flag (shr_z (a.value +ℤ b.value +ℤ pos 1) 2) (lit≤ tt) (lit≤ tt) (cell_parts v).flag (size_middle a.value b.value (cell_parts va).size (cell_parts vb).size)) v

-- ---- columns
module _ {states flags e : ℕ} where
  pub column_valid : (f : ℕ → Cell) → ((k : ℕ) → k < 9 → CellWithin states flags e (f k)) → ColumnWithin states flags e (table 9 f)
  column_valid f h =
      record { long = length_table 9 f; each = λ k l. subst (CellWithin states flags e) (sym (get_d_table 9 f k none l)) (h k l) }

  -- a cell put in a column
  pub put_valid : (xs : List Cell) (k : ℕ) (c : Cell) → ColumnWithin states flags e xs → CellWithin states flags e c → ColumnWithin states flags e (set xs k c)
  put_valid xs k c v w =
      record { long = length-set xs k c ∙ v.long; each = set_each (λ (j : ℕ). CellWithin states flags e) none 9 xs k c v.long w v.each }

  pub column_sized : (xs : List Cell) → ColumnWithin states flags e xs → Sized xs
  column_sized xs v = record { each = λ k l. (cell_parts (v.each k l)).size }

module _ {e : ℕ} where
  between_valid : (rule : Cell → Cell → Cell → Cell) (xs : List Cell)
      → ((a x b : Cell) → ValidCell e a → ValidCell e x → ValidCell e b → ValidCell e (rule a x b)) → ValidColumn e xs → ValidColumn e (between rule xs)
  unfolding between
  between_valid rule xs h v = column_valid _ (λ k l. at k l (ℕ_discrete k 8))
    where
      at : (k : ℕ) → k < 9 → Dec (k ≡ 8) → ValidCell e (ruled rule xs k)
      at k l (yes q) = subst (λ (i : ℕ). ValidCell e (ruled rule xs i)) (sym q) (v.each 8 (lit< tt))
      at k l (no n) = go k l n (ℕ_discrete k 0)
        where
          go : (k : ℕ) → k < 9 → (k ≡ 8 → ⊥) → Dec (k ≡ 0) → ValidCell e (ruled rule xs k)
          go k l n (yes q) = subst (λ (i : ℕ). ValidCell e (ruled rule xs i)) (sym q) (v.each 0 (lit< tt))
          go k l n (no m) =
              cond_keeps (ValidCell e) (leb 1 k && leb k 7)
              (h (slot xs (k - 1)) (slot xs k) (slot xs (k + 1)) (v.each (k - 1) (omega arith)) (v.each k l) (v.each (k + 1) (omega arith)))
              (v.each k l)

-- ---- sheets
module _ {states flags : ℕ} where
  pub sheet_valid : (f : ℕ → List Cell) → ((e : ℕ) → e < 9 → ColumnWithin states flags e (f e)) → SheetWithin states flags (table 9 f)
  sheet_valid f h =
      record { long = length_table 9 f; each = λ e l. subst (ColumnWithin states flags e) (sym (get_d_table 9 f e [] l)) (h e l) }

pub raw_sheet_valid : (s : List (List Cell)) → RawSheet s → ValidSheet s
raw_sheet_valid s v =
    record { long = v.long; each = λ e l. record { long = (v.each e l).long; each = λ k m. raw_valid e _ ((v.each e l).each k m) } }

-- the column of element e replaced
pub replace_valid : (s : List (List Cell)) (e : ℕ) (xs : List Cell) → ValidSheet s → ValidColumn e xs → ValidSheet (set s e xs)
replace_valid s e xs v w = record { long = length-set s e xs ∙ v.long; each = set_each ValidColumn [] 9 s e xs v.long w v.each }

pub range_keeps : (row : ℕ) (warm : Bool) (s : List (List Cell)) → ValidSheet s → ValidSheet (range row warm s)
unfolding range range_column
range_keeps row warm s v = sheet_valid _ (λ e l. column_valid _ (λ k h. range_valid (limits e row warm) (slot (column s e) k) ((v.each e l).each k h)))

suspect_keeps : {e : ℕ} (k : ℕ) (xs : List Cell) → k < 9 → ValidColumn e xs → ValidColumn e (suspect_at k xs)
unfolding suspect_at
suspect_keeps k xs h v = put_valid xs k (flagged 4 (slot xs k)) v (flagged_valid 4 (slot xs k) (lit≤ tt) (v.each k h))

pub internal_keeps : (dds : List ℕ) (s : List (List Cell)) → ValidSheet s → ValidSheet (internal dds s)
unfolding internal dew_column wind_column
internal_keeps dds s v =
    cond_keeps ValidSheet (maximum_below_minimum (slot (column s maximum) 4) (slot (column s minimum) 0))
    (replace_valid _ minimum _ (replace_valid _ maximum _ base (suspect_keeps 4 (column s maximum) (lit< tt) (v.each 7 (lit< tt)))) (suspect_keeps 0 (column s minimum) (lit< tt) (v.each 8 (lit< tt))))
    base
  where
    dew : ValidColumn dew_point (dew_column (column s temperature) (column s dew_point))
    dew = column_valid _ (λ k h. dew_valid (slot (column s temperature) k) (slot (column s dew_point) k) ((v.each 1 (lit< tt)).each k h))

    blow : ValidColumn wind (wind_column dds (column s wind))
    blow = column_valid _ (λ k h. wind_valid (get_or dds k 0) (slot (column s wind) k) ((v.each 3 (lit< tt)).each k h))

    base : ValidSheet (set (set s dew_point (dew_column (column s temperature) (column s dew_point))) wind (wind_column dds (column s wind)))
    base = replace_valid (set s dew_point (dew_column (column s temperature) (column s dew_point))) wind (wind_column dds (column s wind)) (replace_valid s dew_point (dew_column (column s temperature) (column s dew_point)) v dew) blow

pub time_keeps : (s : List (List Cell)) → ValidSheet s → ValidSheet (time s)
unfolding time time_of
time_keeps s v =
    sheet_valid _ (λ e l. cond_keeps (ValidColumn e) (leb e pressure) (between_valid (time_cell (eqb e temperature)) (column s e) (time_valid (eqb e temperature)) (v.each e l)) (v.each e l))

pub fill_keeps : (s : List (List Cell)) → ValidSheet s → ValidSheet (fill s)
unfolding fill fill_of
fill_keeps s v = sheet_valid _ (λ e l. cond_keeps (ValidColumn e) (leb e wind) (between_valid fill_cell (column s e) fill_valid (v.each e l)) (v.each e l))

pub settled_keeps : (row : ℕ) (warm : Bool) (dds : List ℕ) (raw : List (List Cell)) → ValidSheet raw → ValidSheet (settled row warm dds raw)
unfolding settled
settled_keeps row warm dds raw v =
    fill_keeps (time (internal dds (range row warm raw)))
    (time_keeps (internal dds (range row warm raw)) (internal_keeps dds (range row warm raw) (range_keeps row warm raw v)))
