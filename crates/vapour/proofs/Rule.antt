-- The rule of the two constants that the table is kept in: one test, computed where they are named (`Table::new`), and the law that
-- carries it to each index, a whole entry or the step from the entry before.
-- Assumes nothing.
use mathlib.Core.Path.{◌≡◌, refl, sym, subst}
use mathlib.Core.Bool.{Bool, true, ◌&&◌}
use mathlib.Core.List.{List}
use Prim.Native.Nat.{ℕ, zero, suc, ◌+◌, ◌-◌, ◌*◌, ◌/◌, ◌%◌, ◌<◌, ◌≤◌}
use native.Mathlib.Nat.{le_refl, add-zero}
use native.Mathlib.Numerals.{add-one}
use native.Mathlib.Omega.{arith}
use lib.Dec.{T, eqb, eqb→eq}
use lib.IntN.{sub_ℕ}
use lib.ListN.{length, get_or, take, drop, length-take, length-drop}
use Rattle.std.specs.List.{sum}
use Rattle.std.proofs.Common.{add_assoc}
use Rattle.std.proofs.Math.Seq.{take-length}
use Rattle.std.proofs.lemmas.List.{get_or-take, get_or-drop}
use Rattle.std.proofs.lemmas.List.Sums.{sum_by_more}
use Rattle.laws.proofs.Bools.{and_left, and_right}
use Rattle.laws.proofs.Every.{every, entry as tested}
use Rattle.vapour.specs.Vapour.{places, entry}
use Rattle.vapour.specs.Kept.{spacing, Kept}
use Rattle.vapour.proofs.Pass.{quick, quick_is}

-- x is the whole entry b
abbrev right_whole : ℕ → ℕ → Bool
right_whole b x = eqb x (quick (sub_ℕ (spacing * b) 500))

-- the index from which the difference j leads to the next: one difference fewer than `spacing` stands between two whole entries
abbrev from : ℕ → ℕ
from j = j + j / (spacing - 1)

-- x is the difference j
abbrev right_step : ℕ → ℕ → Bool
right_step j x = eqb (quick (sub_ℕ (from j) 500) + x) (quick (sub_ℕ (from j + 1) 500))

-- the test
abbrev pub right : List ℕ → List ℕ → Bool
right ws ds = every right_whole 0 ws && every right_step 0 ds

module _ (ws ds : List ℕ) (t : right ws ds ≡ true) where
  at_whole : (b : ℕ) → b < length ws → get_or ws b 0 ≡ entry (sub_ℕ (spacing * b) 500)
  at_whole b l =
      rw quick_is at
      (eqb→eq (get_or ws b 0) (quick (sub_ℕ (spacing * b) 500))
      (tested right_whole ws (subst T (sym (and_left (every right_whole 0 ws) (every right_step 0 ds) t)) tt) b l))

  at_step : (j : ℕ) → j < length ds → entry (sub_ℕ (from j) 500) + get_or ds j 0 ≡ entry (sub_ℕ (from j + 1) 500)
  at_step j l =
      rw (quick_is (sub_ℕ (from j) 500), quick_is (sub_ℕ (from j + 1) 500)) at
      (eqb→eq (quick (sub_ℕ (from j) 500) + get_or ds j 0) (quick (sub_ℕ (from j + 1) 500))
      (tested right_step ds (subst T (sym (and_right (every right_whole 0 ws) (every right_step 0 ds) t)) tt) j l))

  pub all_right : length ws ≡ 63 → length ws + length ds ≡ places → Kept ws ds
  all_right w o = record { wholes = w; others = o; each = each; step = step }
    where
      each : (i : ℕ) → i < places → i % spacing ≡ 0 → get_or ws (i / spacing) 0 ≡ entry (sub_ℕ i 500)
      each i l z =
          let e : spacing * (i / spacing) ≡ i = omega arith in
          rw e at (at_whole (i / spacing) (omega arith))

      step : (i : ℕ) → i + 1 < places → 0 < (i + 1) % spacing → entry (sub_ℕ i 500) + get_or ds (i - i / spacing) 0 ≡ entry (sub_ℕ (i + 1) 500)
      step i l z =
          let e : from (i - i / spacing) ≡ i = omega arith in
          rw e at (at_step (i - i / spacing) (omega arith))

-- ---- the sum of the last whole entry up to the index i and of the differences that stand between
module _ {ws ds : List ℕ} (h : Kept ws ds) (i : ℕ) (l : i < places) where
  -- the index that it comes to with j differences
  abbrev place : ℕ → ℕ
  place j = spacing * (i / spacing) + j

  abbrev pub between : List ℕ
  between = take (i / spacing * (spacing - 1) + i % spacing - i / spacing * (spacing - 1)) (drop (i / spacing * (spacing - 1)) ds)

  all : length between ≡ i % spacing
  all =
      let o = h.others in
      let w = h.wholes in
      grind (arith, length-take, length-drop)

  pub begun : get_or ws (i / spacing) 0 ≡ entry (sub_ℕ (place 0) 500)
  begun =
      let e : place 0 / spacing ≡ i / spacing = omega arith in
      rw e at (h.each (place 0) (omega arith) (omega arith))

  -- one more difference
  pub next : (j x d : ℕ) → j < length between → x ≡ entry (sub_ℕ (place j) 500) → d ≡ get_or between j 0 → x + d ≡ entry (sub_ℕ (place (j + 1)) 500)
  next j x d b e f =
      let k : j < i % spacing = rw all at b in
      let q : place j - place j / spacing ≡ i / spacing * (spacing - 1) + j = omega arith in
      let r : place j + 1 ≡ place (j + 1) = omega arith in
      rw (e, f, get_or-take (i / spacing * (spacing - 1) + i % spacing - i / spacing * (spacing - 1)) (drop (i / spacing * (spacing - 1)) ds) j 0 (omega arith), get_or-drop (i / spacing * (spacing - 1)) ds j 0, ← q, ← r)
      (h.step (place j) (omega arith) (omega arith))

  -- the whole entry and j of the differences
  summed : (j : ℕ) → j ≤ length between → get_or ws (i / spacing) 0 + sum (take j between) ≡ entry (sub_ℕ (place j) 500)
  summed zero b = rw add-zero begun
  summed (suc j) b =
      let e = next j (get_or ws (i / spacing) 0 + sum (take j between)) (get_or between j 0) (omega arith) (summed j (omega arith)) refl in
      rw (← add-one j, sum_by_more (λ x. x) between j 0 (omega arith), ← add_assoc) e

  pub total : get_or ws (i / spacing) 0 + sum between ≡ entry (sub_ℕ i 500)
  total =
      let e : place (length between) ≡ i = omega (arith, all) in
      rw (e, take-length) at (summed (length between) (le_refl (length between)))
