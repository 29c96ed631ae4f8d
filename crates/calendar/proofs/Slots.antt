-- Laws of slots: a report names slot k exactly if its YY and GG are slot k's.
--     named     what an answer Some k tells, k below 9 among it
--     names     slot k is named by its own day and hour
-- Assumes nothing.
use mathlib.Core.Path.{◌≡◌, refl, sym, ◌∙◌, ap}
use mathlib.Core.Bool.{Bool, true, false, cond, false≢true}
use mathlib.Core.List.{List, [], ◌∷◌}
use Prim.Native.Nat.{ℕ, suc, ◌+◌, ◌<◌}
use native.Mathlib.Omega.{arith}
use borrow.Author.Tests.{eqb-true, eq-eqb, ne_eqb, lt-ltb, le-ltb}
use lib.Dec.{ltb, eqb}
use lib.ListN.{length, get_or, get_or-append}
use lib.Seq.{get_or-append-add}
use Rattle.laws.proofs.Tables.{all_at}
use Rattle.laws.proofs.Bools.{is_true, is_false, known, cond_true, cond_false}
use Rattle.std.specs.Prelude.{Option, None, Some}
use Rattle.calendar.specs.Dates.{next_day}
use Rattle.calendar.specs.Slots.{hours_of_d, hours_after, slot_at, slot_of, slot_day, slot_hour}
use Rattle.calendar.proofs.Dates.{next_differs}

-- an hour of a list has the number of its place, counted from k
record Placed (k : ℕ) (hours : List ℕ) (gg j : ℕ) : Type 0 where
  place : ℕ
  inside : place < length hours
  number : j ≡ k + place
  hour : gg ≡ get_or hours place 0

placed : (hours : List ℕ) (k gg j : ℕ) → slot_at k hours gg ≡ Some j → Placed k hours gg j
placed [] k gg j e = let z : ◌≡◌ {A = ℕ} 0 1 = cc in absurd (omega arith)
placed (hour ∷ hours) k gg j e =
    elim (known (eqb gg hour)) [
      | is_true t ↦
          let q : Some k ≡ Some j = sym (cond_true (eqb gg hour) (Some k) (slot_at (suc k) hours gg) t) ∙ e in
          let s : k ≡ j = cc in
          record { place = 0; inside = omega arith; number = omega arith; hour = eqb-true gg hour t }
      | is_false f ↦
          let p = placed hours (suc k) gg j (sym (cond_false (eqb gg hour) (Some k) (slot_at (suc k) hours gg) f) ∙ e) in
          record { place = suc p.place; inside = omega arith; number = omega arith; hour = p.hour }
    ]

-- the answer is slot k
is_at : ℕ → Option ℕ → Bool
is_at k (Some j) = eqb j k
is_at k None = false

is_at_only : (k : ℕ) (s : Option ℕ) → is_at k s ≡ true → s ≡ Some k
unfolding is_at
is_at_only k (Some j) e = ap Some (eqb-true j k e)
is_at_only k None e = absurd (false≢true e)

-- slot k's hour gives k among the hours of its day: one test, computed at the nine slots
abbrev own : ℕ → Bool
own k = is_at k (cond (ltb k 6) (slot_at 0 hours_of_d (slot_hour k)) (slot_at 6 hours_after (slot_hour k)))

own_hour : (k : ℕ) → k < 9 → own k ≡ true
unfolding is_at
own_hour k h = all_at own 9 refl k h

-- the slot k of D has YY and GG
pub record Named (year month day yy gg k : ℕ) : Type 0 where
  pub below : k < 9
  pub on_day : yy ≡ slot_day year month day k
  pub at_hour : gg ≡ slot_hour k

module _ (year month day : ℕ) where
  -- YY is D's own day
  on_d : (gg : ℕ) → slot_of year month day day gg ≡ slot_at 0 hours_of_d gg
  unfolding slot_of
  on_d gg = rw (eq-eqb day day refl)

  -- YY is the day after D
  after_d : (gg : ℕ) → slot_of year month day (next_day year month day) gg ≡ slot_at 6 hours_after gg
  unfolding slot_of
  after_d gg =
      rw (
        ne_eqb (next_day year month day) day (λ q. next_differs year month day (sym q)),
        eq-eqb (next_day year month day) (next_day year month day) refl,
      )

  pub names : (k : ℕ) → k < 9 → slot_of year month day (slot_day year month day k) (slot_hour k) ≡ Some k
  names k h =
      elim (known (ltb k 6)) [
        | is_true t ↦ rw t (on_d (slot_hour k) ∙ is_at_only k (slot_at 0 hours_of_d (slot_hour k)) (rw t at (own_hour k h)))
        | is_false f ↦ rw f (after_d (slot_hour k) ∙ is_at_only k (slot_at 6 hours_after (slot_hour k)) (rw f at (own_hour k h)))
      ]

  pub named : (yy gg k : ℕ) → slot_of year month day yy gg ≡ Some k → Named year month day yy gg k
  unfolding slot_of
  named yy gg k e =
      elim (known (eqb yy day)) [
        | is_true t ↦
            let p = placed hours_of_d 0 gg k (rw t at e) in
            let s : p.place ≡ k = omega arith in
            record {
              below = omega arith;
              on_day = rw (lt-ltb k 6 (omega arith)) (eqb-true yy day t);
              at_hour = p.hour ∙ sym (get_or-append hours_of_d hours_after 0 p.place p.inside) ∙ ap slot_hour s;
            }
        | is_false f ↦
            elim (known (eqb yy (next_day year month day))) [
              | is_true t ↦
                  let p = placed hours_after 6 gg k (rw (f, t) at e) in
                  let s : 6 + p.place ≡ k = omega arith in
                  record {
                    below = omega arith;
                    on_day = rw (le-ltb k 6 (omega arith)) (eqb-true yy (next_day year month day) t);
                    at_hour = p.hour ∙ sym (get_or-append-add hours_of_d hours_after p.place 0) ∙ ap slot_hour s;
                  }
              | is_false g ↦ let n : None ≡ Some k = rw (f, g) at e in let z : ◌≡◌ {A = ℕ} 0 1 = cc in absurd (omega arith)
            ]
      ]
