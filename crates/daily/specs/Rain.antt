-- "Rain: R of slot 8 if its tR is 4; else the sum of two halves, else absent."
-- Assumes nothing.
use Rattle.std.specs.Prelude.{Bool, false, cond, ◌&&◌, List, map, ℕ, eqb, ℤ, ◌+ℤ◌, get_or, Option, None, Some}
use Rattle.quality.specs.declared.head.SlotHead.{SlotHead}
use Rattle.quality.specs.Cell.{Cell, missing, slot}
use Rattle.quality.specs.Steps.{is_zero}

-- iR and tR of slot k, in its head
abbrev pub i_r : List SlotHead → ℕ → ℕ
i_r heads k = get_or (map (λ (h : SlotHead). h.ir) heads) k 5

abbrev pub t_r : List SlotHead → ℕ → ℕ
t_r heads k = get_or (map (λ (h : SlotHead). h.tr) heads) k 0

-- the checked R of slot k, absent where it is missing
abbrev pub amount : List Cell → ℕ → Option ℤ
amount rs k = cond (missing (slot rs k)) None (Some (slot rs k).value)

-- "R 0": an amount that is there and is 0
abbrev pub is_nothing : Option ℤ → Bool
is_nothing None = false
is_nothing (Some z) = is_zero z

-- "a missing one makes the half or total that needs it absent"
abbrev pub together : Option ℤ → Option ℤ → Option ℤ
together None b = None
together (Some x) None = None
together (Some x) (Some y) = Some (x +ℤ y)

-- S-5: "a half that ends in a slot with iR 3, R 0 and tR 2 is the R of the slot six hours before where that slot has tR 1"; else the R of the
-- slot with tR 2 that ends it
abbrev pub twelve_hours : List SlotHead → List Cell → ℕ → ℕ → Option ℤ
twelve_hours heads rs first last =
    cond (eqb (i_r heads last) 3 && eqb (t_r heads first) 1 && is_nothing (amount rs last)) (amount rs first) (amount rs last)

-- a half of the day: the slot that ends it, "with tR 2, else" that and the slot six hours before, "both tR 1"
unfoldable pub half : List SlotHead → List Cell → ℕ → ℕ → Option ℤ
half heads rs first last =
    cond (eqb (t_r heads last) 2) (twelve_hours heads rs first last)
    (cond (eqb (t_r heads first) 1 && eqb (t_r heads last) 1) (together (amount rs first) (amount rs last)) None)

-- "First half: slot 4 with tR 2, else slots 2 and 4 both tR 1. Second: slot 8 with tR 2, else slots 6 and 8 both tR 1."
unfoldable pub rain_total : List SlotHead → List Cell → Option ℤ
rain_total heads rs = cond (eqb (t_r heads 8) 4) (amount rs 8) (together (half heads rs 2 4) (half heads rs 6 8))
