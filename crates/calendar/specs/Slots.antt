-- The nine slots of the day D.
--     slot_of                the slot that a report's YY and GG name
--     slot_day, slot_hour     the YY and GG that name a slot
-- Assumes nothing.
use Rattle.std.specs.Prelude.{cond, List, [], ◌∷◌, ◌++◌, ℕ, suc, ltb, eqb, get_or, Option, None, Some}
use Rattle.calendar.specs.Dates.{next_day}

-- "Nine slots: 0 to 5 are 06, 09, 12, 15, 18, 21 UTC of D; .."
abbrev pub hours_of_d : List ℕ
hours_of_d = 6 ∷ 9 ∷ 12 ∷ 15 ∷ 18 ∷ 21 ∷ []

-- ".. 6, 7, 8 are 00, 03, 06 UTC of D+1."
abbrev pub hours_after : List ℕ
hours_after = 0 ∷ 3 ∷ 6 ∷ []

-- the slot of an hour, where the hours of a day are those of the slots k, k + 1, ..
abbrev pub slot_at : ℕ → List ℕ → ℕ → Option ℕ
slot_at k [] gg = None
slot_at k (hour ∷ hours) gg = cond (eqb gg hour) (Some k) (slot_at (suc k) hours gg)

-- "A report gives YY (day of the month) and GG (hour); both must match a slot."
unfoldable pub slot_of : ℕ → ℕ → ℕ → ℕ → ℕ → Option ℕ
slot_of year month day yy gg =
    cond (eqb yy day) (slot_at 0 hours_of_d gg) (cond (eqb yy (next_day year month day)) (slot_at 6 hours_after gg) None)

-- YY of slot k
abbrev pub slot_day : ℕ → ℕ → ℕ → ℕ → ℕ
slot_day year month day k = cond (ltb k 6) day (next_day year month day)

-- GG of slot k
abbrev pub slot_hour : ℕ → ℕ
slot_hour k = get_or (hours_of_d ++ hours_after) k 0
