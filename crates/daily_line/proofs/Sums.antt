-- The mean from what its parts give.
-- Assumes nothing.
use mathlib.Core.Path.{◌≡◌, refl, sym, ◌∙◌, ap}
use mathlib.Core.Bool.{Bool, true, false, cond, true≢false}
use mathlib.Core.List.{List}
use Prim.Native.Nat.{ℕ, ◌+◌, ◌<◌}
use native.Mathlib.Numerals.{add-one}
use native.Mathlib.Omega.{arith}
use lib.IntN.{ℤ, pos, ◌+ℤ◌}
use lib.ListN.{get_or}
use lib.Ieee.{Float}
use Rattle.std.proofs.Common.{zero-le}
use Rattle.std.specs.Bool.{MatchBool}
use Rattle.std.specs.List.{AllWithin, HoldsAt, range_with_len}
use Rattle.std.proofs.lemmas.List.FromFn.{get_or-range_with_len}
use Rattle.laws.specs.All.{all}
use Rattle.laws.proofs.Bools.{is_true, is_false, known}
use Rattle.laws.proofs.Tables.{all_at, all_from}
use Rattle.quality.specs.declared.column.Column.{Column}
use Rattle.quality.specs.Cell.{Cell}
use Rattle.quality.specs.Coded.{cells}
use Rattle.quality.proofs.Columns.{slot_cells}
use Rattle.daily.specs.declared.Mean.TheVariants.{Absent, Read, Mended}
use Rattle.daily.specs.Means.{sum, eightfold, average}
use Rattle.daily.specs.Coded.{eighth, IsEighth, SaysMean}
use Rattle.daily_line.specs.MeanParts.{complete, plain}

-- what `all` over the slots 0 to 7 answers
pub all_slots : (p : ℕ → Bool) (r : Bool)
    → MatchBool r (AllWithin (λ k. p k ≡ true) (range_with_len 0 8) 0 8) ((k : ℕ) × (k < 8) × HoldsAt (λ k. p k ≡ false) (range_with_len 0 8) k) → r ≡ all p 8
all_slots p true h =
    sym
    (all_from p 8 (λ i l. let e : get_or (range_with_len 0 8) i 0 ≡ i = omega (arith, get_or-range_with_len 0 8 i 0 l) in rw e at (h i 0 zero-le l)))
all_slots p false (k, l, h) =
    let e : get_or (range_with_len 0 8) k 0 ≡ k = omega (arith, get_or-range_with_len 0 8 k 0 l) in
    elim (known (all p 8)) [ is_true a ↦ absurd (true≢false (sym (all_at p 8 a k l) ∙ rw e at (h 0))) | is_false a ↦ sym a ]

-- one more value
pub sum_turn : (c : Column) (k : ℕ) (n : ℤ) → k < 9 → n ≡ sum (cells c) k → n +ℤ get_or c.values k (pos 0) ≡ sum (cells c) (k + 1)
unfolding sum
sum_turn c k n l h = rw (add-one, ← slot_cells c k l) (ap (λ (z : ℤ). z +ℤ get_or c.values k (pos 0)) h)

-- the mean of a column
module _ (xs : List Cell) where
  pub says_absent : complete xs ≡ false → SaysMean Absent (average xs)
  unfolding average
  says_absent h = rw h (record { rule = refl; exact = tt })

  -- z the eightfold sum, x an eighth of it
  pub says_sum : (b : Bool) (z : ℤ) (x : Float) → complete xs ≡ true → plain xs ≡ b → z ≡ eightfold xs → x ≡ eighth z → IsEighth x z
      → SaysMean (cond b (Read x) (Mended x)) (average xs)
  unfolding average
  says_sum true z x h g e r v = rw (h, g, ← e) (record { rule = ap Read r; exact = rw r at v })
  says_sum false z x h g e r v = rw (h, g, ← e) (record { rule = ap Mended r; exact = rw r at v })
