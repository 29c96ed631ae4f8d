-- Real calendar dates, and the day after one.
--     leap       leap years
--     days_in     the number of days of a month
--     is_date     a date that a store can have
--     next_day    the day of the month of D+1
-- Assumes nothing.
use Rattle.std.specs.Prelude.{Bool, not, ◌&&◌, ◌||◌, cond, ℕ, ◌+◌, ◌%◌, leb, ltb, eqb}

-- the Gregorian rule: every fourth year, of the full centuries every fourth alone
abbrev pub leap : ℕ → Bool
leap year = eqb (year % 4) 0 && (not (eqb (year % 100) 0) || eqb (year % 400) 0)

-- April, June, September and November have thirty days
abbrev pub thirty : ℕ → Bool
thirty month = eqb month 4 || eqb month 6 || eqb month 9 || eqb month 11

-- February has 28 days, in a leap year 29; four months have 30; the others 31 (as has a number that is no month: is_date refuses it)
unfoldable pub days_in : ℕ → ℕ → ℕ
days_in year month = cond (eqb month 2) (cond (leap year) 29 28) (cond (thirty month) 30 31)

-- "A date has year 2000 to 2099 and is a real calendar date D."
unfoldable pub is_date : ℕ → ℕ → ℕ → Bool
is_date year month day =
    leb 2000 year && leb year 2099 && leb 1 month && leb month 12 && leb 1 day && leb day (days_in year month)

-- the day of the month of D+1: one more, and 1 after the last of a month, that of December included
unfoldable pub next_day : ℕ → ℕ → ℕ → ℕ
next_day year month day = cond (ltb day (days_in year month)) (day + 1) 1
