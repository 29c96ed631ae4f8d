-- Counts, and how large they are.
--     column_count, sheet_count   the counts of the code
--     count_most                  81 at most
--     count_all                   the four counts of a valid sheet add to 81
-- Assumes nothing.
use mathlib.Core.Path.{◌≡◌, refl, sym, ◌∙◌, ap}
use mathlib.Core.Bool.{Bool, true, false, cond}
use mathlib.Core.List.{List, []}
use Prim.Native.Nat.{ℕ, zero, suc, ◌+◌, ◌*◌, ◌≤◌}
use native.Mathlib.Nat.{le_refl}
use native.Mathlib.Numerals.{add-one}
use native.Mathlib.Omega.{arith}
use lib.Dec.{lit≤}
use lib.ListN.{length, get_or, take}
use Rattle.std.specs.List.{sum_by, count_by}
use Rattle.std.proofs.Math.Seq.{take-length}
use Rattle.std.proofs.lemmas.List.Sums.{sum_by_more}
use Rattle.laws.proofs.Maps.{map_at}
use Rattle.quality.specs.declared.column.Column.{Column}
use Rattle.quality.specs.Coded.{cells, sheet}
use Rattle.quality.proofs.Columns.{slot_cells}
use Rattle.quality.specs.Cell.{Cell, slot}
use Rattle.quality.specs.Elements.{column}
use Rattle.quality.specs.Valid.{ValidColumn, ValidSheet}
use Rattle.quality.proofs.Validity.{state_most}
use Rattle.daily.specs.Counts.{counts_under, in_column, in_sheet, count}

-- the states of a column, one by one
column_states : (s : ℕ) (c : Column) → length c.states ≡ 9 → (n : ℕ) → n ≤ 9 → in_column s (cells c) n ≡ count_by (λ a. counts_under s a) (take n c.states)
unfolding in_column
column_states s c e zero h = refl
column_states s c e (suc n) h =
    rw (← slot_cells c n (omega arith), ← add-one n, sum_by_more (λ (a : ℕ). cond (counts_under s a) 1 0) c.states n 0 (omega arith))
    (ap (λ (m : ℕ). m + cond (counts_under s (get_or c.states n 0)) 1 0) (column_states s c e n (omega arith)))

pub column_count : (s : ℕ) (c : Column) → length c.states ≡ 9 → count_by (λ a. counts_under s a) c.states ≡ in_column s (cells c) 9
column_count s c e = sym (column_states s c e 9 (lit≤ tt) ∙ rw (← e, take-length))

-- the columns of a sheet, one by one
sheet_columns : (s : ℕ) (cs : List Column) (d : Column) (n : ℕ) → n ≤ length cs → in_sheet s (sheet cs) n ≡ sum_by (λ (c : Column). in_column s (cells c) 9) (take n cs)
unfolding in_sheet
sheet_columns s cs d zero h = refl
sheet_columns s cs d (suc n) h =
    rw (map_at cells cs n d [] (omega arith), ← add-one n, sum_by_more (λ (c : Column). in_column s (cells c) 9) cs n d (omega arith))
    (ap (λ (m : ℕ). m + in_column s (cells (get_or cs n d)) 9) (sheet_columns s cs d n (omega arith)))

pub sheet_count : (s : ℕ) (cs : List Column) → length cs ≡ 9 → sum_by (λ (c : Column). in_column s (cells c) 9) cs ≡ count s (sheet cs)
sheet_count s cs e =
    let d : Column = record { values = []; states = []; flags = [] } in
    sym (rw e at (sheet_columns s cs d (length cs) (le_refl (length cs))) ∙ rw (← e, take-length))

-- ---- 81 at most
bit : (b : Bool) → cond b 1 0 ≤ 1
bit true = omega arith
bit false = omega arith

pub column_most : (s : ℕ) (xs : List Cell) (n : ℕ) → in_column s xs n ≤ n
unfolding in_column
column_most s xs zero = omega arith
column_most s xs (suc n) = omega (arith, column_most s xs n, bit (counts_under s (slot xs n).state))

sheet_most : (s : ℕ) (sheet : List (List Cell)) (n : ℕ) → in_sheet s sheet n ≤ 9 * n
unfolding in_sheet
sheet_most s sheet zero = omega arith
sheet_most s sheet (suc n) = omega (arith, sheet_most s sheet n, column_most s (column sheet n) 9)

pub count_most : (s : ℕ) (sheet : List (List Cell)) → count s sheet ≤ 81
count_most s sheet = sheet_most s sheet 9

-- ---- each cell of a valid sheet counts once
abbrev once : ℕ → ℕ
once state = cond (counts_under 1 state) 1 0 + cond (counts_under 2 state) 1 0 + cond (counts_under 3 state) 1 0 + cond (counts_under 0 state) 1 0

counts_once : (state : ℕ) → state ≤ 4 → once state ≡ 1
counts_once zero h = refl
counts_once (suc zero) h = refl
counts_once (suc (suc zero)) h = refl
counts_once (suc (suc (suc zero))) h = refl
counts_once (suc (suc (suc (suc zero)))) h = refl
counts_once (suc (suc (suc (suc (suc n))))) h = omega arith

column_all : (e : ℕ) (xs : List Cell) → ValidColumn e xs → (n : ℕ) → n ≤ 9 → in_column 1 xs n + in_column 2 xs n + in_column 3 xs n + in_column 0 xs n ≡ n
unfolding in_column
column_all e xs v zero h = refl
column_all e xs v (suc n) h =
    omega (arith, column_all e xs v n (omega arith), counts_once (slot xs n).state (state_most e (slot xs n) (v.each n (omega arith))))

sheet_all : (s : List (List Cell)) → ValidSheet s → (n : ℕ) → n ≤ 9 → in_sheet 1 s n + in_sheet 2 s n + in_sheet 3 s n + in_sheet 0 s n ≡ 9 * n
unfolding in_sheet
sheet_all s v zero h = refl
sheet_all s v (suc n) h =
    omega (arith, sheet_all s v n (omega arith), column_all n (column s n) (v.each n (omega arith)) 9 (lit≤ tt))

-- "Counts of the 81 checked cells"
pub count_all : (s : List (List Cell)) → ValidSheet s → count 1 s + count 2 s + count 3 s + count 0 s ≡ 81
count_all s v = sheet_all s v 9 (lit≤ tt)
