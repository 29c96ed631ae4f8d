-- The four steps of document 01's "Settling a station", each on the cells that its rule speaks of.
-- Assumes nothing.
use Rattle.std.specs.Prelude.{Bool, not, cond, ◌&&◌, ◌||◌, List, ℕ, ◌+◌, ◌-◌, leb, ltb, eqb, ℤ, pos, neg_ℤ, nat_abs, ◌+ℤ◌, ◌-ℤ◌}
use lib.ListN.{set}
use Rattle.std.specs.Int.Signed.{lt_z, shr_z}
use Rattle.laws.specs.Table.{table}
use Rattle.quality.specs.Cell.{Cell, missing, is_humidity, discarded, flagged, slot}
use Rattle.quality.specs.Limits.{Limits}

-- The cells that the steps pass over: "a test that meets a missing value does nothing"; S-2: "Range, internal, time and fill steps pass over"
-- a humidity. Each rule begins with that test, but the fill step's, which asks for a missing cell
abbrev pub passed_over : Cell → Bool
passed_over c = missing c || is_humidity c

-- "both neighbours present": a cell that the steps pass over is no neighbour in time; S-2: "it is no neighbour for filling or for the time step"
abbrev pub no_neighbour : Cell → Bool
no_neighbour c = passed_over c

-- ---- 1. Range: "below min2 or above max2 discard, flag 1; else below min1 or above max1, flag 4"
unfoldable pub range_cell : Limits → Cell → Cell
range_cell l c =
    cond (passed_over c) c
    (cond (lt_z c.value l.min2 || lt_z l.max2 c.value) (discarded 1)
    (cond (lt_z c.value l.min1 || lt_z l.max1 c.value) (flagged 4 c) c))

-- ---- 2. Internal
-- "D above T: D discarded, flag 2."
unfoldable pub dew_cell : Cell → Cell → Cell
dew_cell t d = cond (passed_over t || passed_over d) d (cond (lt_z t.value d.value) (discarded 2) d)

abbrev pub is_zero : ℤ → Bool
is_zero z = eqb (nat_abs z) 0

-- "dd 0 with W above 0, or dd 1 to 36 with W 0: W flag 4."
unfoldable pub wind_cell : ℕ → Cell → Cell
wind_cell dd w =
    cond (passed_over w) w
    (cond ((eqb dd 0 && lt_z (pos 0) w.value) || (leb 1 dd && leb dd 36 && is_zero w.value)) (flagged 4 w) w)

-- "X of slot 4 below M of slot 0": the day's maximum below the night's minimum
unfoldable pub maximum_below_minimum : Cell → Cell → Bool
maximum_below_minimum x m = not (passed_over x) && not (passed_over m) && lt_z x.value m.value

-- ---- 3. Time
abbrev pub apart : ℤ → ℤ → ℕ
apart x y = nat_abs (x -ℤ y)

-- "differs .. by more than 100"
abbrev pub far : ℤ → ℤ → Bool
far x y = ltb 100 (apart x y)

-- "within 50"
abbrev pub near : ℤ → ℤ → Bool
near x y = leb (apart x y) 50

-- ".. then for T, if its negative is within 50 of each, it becomes that (state 2, flag 3); else discard, flag 3": a and b are the neighbours
-- in time, `mends` says whether the element is T
unfoldable pub spike_cell : Bool → Cell → Cell → Cell → Cell
spike_cell mends a x b =
    cond (mends && near (neg_ℤ x.value) a.value && near (neg_ℤ x.value) b.value)
    (record { state = 2; flag = 3; value = neg_ℤ x.value })
    (discarded 3)

-- "both neighbours present: if the value differs from each by more than 100, then .."
unfoldable pub time_cell : Bool → Cell → Cell → Cell → Cell
time_cell mends a x b =
    cond (no_neighbour a || passed_over x || no_neighbour b) x
    (cond (far x.value a.value && far x.value b.value) (spike_cell mends a x b) x)

-- ---- 4. Fill: "missing, with neighbours a, b present after step 3: floor((a + b + 1) / 2), state 3, flag kept"
unfoldable pub fill_cell : Cell → Cell → Cell → Cell
fill_cell a x b =
    cond (missing x && not (no_neighbour a) && not (no_neighbour b))
    (record { state = 3; flag = x.flag; value = shr_z (a.value +ℤ b.value +ℤ pos 1) 2 })
    x

-- ---- on columns
-- a rule on a cell and its neighbours in time, at "slots 1 to 7"; it reads only what the step before left
unfoldable pub between : (Cell → Cell → Cell → Cell) → List Cell → List Cell
between rule xs = table 9 (λ k. cond (leb 1 k && leb k 7) (rule (slot xs (k - 1)) (slot xs k) (slot xs (k + 1))) (slot xs k))

unfoldable pub range_column : Limits → List Cell → List Cell
range_column l xs = table 9 (λ k. range_cell l (slot xs k))

unfoldable pub dew_column : List Cell → List Cell → List Cell
dew_column ts ds = table 9 (λ k. dew_cell (slot ts k) (slot ds k))

unfoldable pub wind_column : List ℕ → List Cell → List Cell
wind_column dds ws = table 9 (λ k. wind_cell (lib.ListN.get_or dds k 0) (slot ws k))

-- the column with its cell at slot k suspect
unfoldable pub suspect_at : ℕ → List Cell → List Cell
suspect_at k xs = set xs k (flagged 4 (slot xs k))
