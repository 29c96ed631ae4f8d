-- Worked examples of the day after, by computation.
-- Assumes nothing.
use mathlib.Core.Path.{◌≡◌, refl}
use Rattle.calendar.specs.Dates.{days_in, next_day}

-- "after 2024-02-28 YY is 29"
pub after_2024_02_28 : next_day 2024 2 28 ≡ 29
unfolding next_day days_in
after_2024_02_28 = refl

-- after the last date of all
pub after_2099_12_31 : next_day 2099 12 31 ≡ 1
unfolding next_day days_in
after_2099_12_31 = refl
