-- Laws of dates.
--     days_within     a month has 28 to 31 days
--     real, is_real   a date is real exactly if its numbers are within their bounds
--     of_month        the dates of a month
--     after           the two cases of the day after
--     next_within     the day after has the number 1 to 31
--     next_differs    D and D+1 never have the same day of the month
--     next_by_date    D+1 is the next number where that is a date of the month, and 1 where it is not
-- Assumes nothing.
use mathlib.Core.Path.{◌≡◌}
use mathlib.Core.Bool.{Bool, true, false, ◌&&◌, cond}
use Prim.Native.Nat.{ℕ, ◌+◌, ◌<◌, ◌≤◌}
use native.Mathlib.Numerals.{add-one}
use native.Mathlib.Omega.{arith}
use borrow.Author.Tests.{leb-true, le-leb, ltb-true, ltb-false}
use lib.Dec.{leb, ltb, eqb, lit≤}
use Rattle.laws.proofs.Bools.{Known, is_true, is_false, known, and_left, and_right, cond_true, cond_false}
use Rattle.calendar.specs.Dates.{leap, thirty, days_in, is_date, next_day}

pub days_within : (year month : ℕ) → (28 ≤ days_in year month) × (days_in year month ≤ 31)
unfolding days_in
days_within year month = by (eqb month 2) (leap year) (thirty month)
  where
    by : (a b t : Bool) → (28 ≤ cond a (cond b 29 28) (cond t 30 31)) × (cond a (cond b 29 28) (cond t 30 31) ≤ 31)
    by true true t = (lit≤ tt, lit≤ tt)
    by true false t = (lit≤ tt, lit≤ tt)
    by false b true = (lit≤ tt, lit≤ tt)
    by false b false = (lit≤ tt, lit≤ tt)

-- what a real date tells of its numbers
pub record Real (year month day : ℕ) : Type 0 where
  pub year_from : 2000 ≤ year
  pub year_to : year ≤ 2099
  pub month_from : 1 ≤ month
  pub month_to : month ≤ 12
  pub day_from : 1 ≤ day
  pub day_to : day ≤ 31
  pub in_month : day ≤ days_in year month

-- the parts of six tests that all hold
six : (a b c d e f : Bool) → (a && b && c && d && e && f) ≡ true → (a ≡ true) × (b ≡ true) × (c ≡ true) × (d ≡ true) × (e ≡ true) × (f ≡ true)
six a b c d e f h =
    let h5 = and_left (a && b && c && d && e) f h in
    let h4 = and_left (a && b && c && d) e h5 in
    let h3 = and_left (a && b && c) d h4 in
    let h2 = and_left (a && b) c h3 in (
      and_left a b h2,
      and_right a b h2,
      and_right (a && b) c h3,
      and_right (a && b && c) d h4,
      and_right (a && b && c && d) e h5,
      and_right (a && b && c && d && e) f h,
    )

pub real : (year month day : ℕ) → is_date year month day ≡ true → Real year month day
unfolding is_date
real year month day e =
    let p =
    six (leb 2000 year) (leb year 2099) (leb 1 month) (leb month 12) (leb 1 day) (leb day (days_in year month)) e
    in
    let l : day ≤ days_in year month = leb-true day (days_in year month) p.5 in
    record {
      year_from = leb-true 2000 year p.0;
      year_to = leb-true year 2099 p.1;
      month_from = leb-true 1 month p.2;
      month_to = leb-true month 12 p.3;
      day_from = leb-true 1 day p.4;
      day_to = omega (arith, days_within year month);
      in_month = l;
    }

-- in the month of a real date, the dates are 1 to the last
pub of_month : (year month day other : ℕ) → Real year month day → is_date year month other ≡ (leb 1 other && leb other (days_in year month))
unfolding is_date
of_month year month day other r =
    rw (
      le-leb 2000 year r.year_from,
      le-leb year 2099 r.year_to,
      le-leb 1 month r.month_from,
      le-leb month 12 r.month_to,
    )

pub is_real : (year month day : ℕ) → Real year month day → is_date year month day ≡ true
is_real year month day r =
    rw (of_month year month day day r, le-leb 1 day r.day_from, le-leb day (days_in year month) r.in_month)

-- the day after, within the month or at its end
pub data After (year month day : ℕ) : Type 0 where
  within : day < days_in year month → next_day year month day ≡ day + 1 → After year month day
  at_end : days_in year month ≤ day → next_day year month day ≡ 1 → After year month day

pub after : (year month day : ℕ) → After year month day
unfolding next_day
after year month day = by (known (ltb day (days_in year month)))
  where
    by : Known (ltb day (days_in year month)) → After year month day
    by (is_true t) = within (ltb-true day (days_in year month) t) (cond_true (ltb day (days_in year month)) (day + 1) 1 t)
    by (is_false f) = at_end (ltb-false day (days_in year month) f) (cond_false (ltb day (days_in year month)) (day + 1) 1 f)

pub next_within : (year month day : ℕ) → (1 ≤ next_day year month day) × (next_day year month day ≤ 31)
next_within year month day =
    elim (after year month day) [
      | within l e ↦ omega (arith, days_within year month)
      | at_end l e ↦ omega arith
    ]

pub next_differs : (year month day : ℕ) → day ≡ next_day year month day → ⊥
next_differs year month day h =
    elim (after year month day) [
      | within l e ↦ omega arith
      | at_end l e ↦ omega (arith, days_within year month)
    ]

pub next_by_date : (year month day : ℕ) → is_date year month day ≡ true → next_day year month day ≡ cond (is_date year month (day + 1)) (day + 1) 1
unfolding next_day
next_by_date year month day e =
    rw (of_month year month day (day + 1) (real year month day e), le-leb 1 (day + 1) (omega arith), add-one)
