-- Check 4, the heading's ranges: "YY not 01-31, GG not 00-23, iw not 0, 1, 3, 4, IIiii 00000".
-- Assumes nothing.
use Rattle.std.specs.Prelude.{Bool, true, false, not, ◌&&◌, ◌||◌, List, [], ◌∷◌, ℕ, leb, eqb}
use Rattle.synop_values.specs.Digits.{two, given}
use Rattle.synop_text.specs.declared.Characters.{Characters}
use Rattle.synop_text.specs.declared.Group.{Group}
use Rattle.synop_text.specs.Kinds.{on_five}
use Rattle.synop_text.specs.declared.order.Place.{Place}
use Rattle.synop_text.specs.declared.order.Place.TheVariants.{Start, Letters, Time}
use Rattle.synop_text.specs.Places.{next}

-- YY 01 to 31
unfoldable pub is_day : ℕ → ℕ → Bool
is_day a b = given (two a b) false (λ yy. leb 1 yy && leb yy 31)

-- GG 00 to 23
unfoldable pub is_hour : ℕ → ℕ → Bool
is_hour a b = given (two a b) false (λ gg. leb gg 23)

-- iw 0, 1, 3, 4
unfoldable pub is_unit : ℕ → Bool
is_unit iw = ((eqb iw 48 || eqb iw 49) || eqb iw 51) || eqb iw 52

-- YYGGiw
unfoldable pub is_time : Characters → Bool
is_time x = (is_day x.a x.b && is_hour x.c x.d) && is_unit x.e

-- IIiii, any but 00000
unfoldable pub is_station : Characters → Bool
is_station x = not ((((eqb x.a 48 && eqb x.b 48) && eqb x.c 48) && eqb x.d 48) && eqb x.e 48)

-- five characters after a place
abbrev pub five_ranged : Place → Characters → Bool
five_ranged Letters x = is_time x
five_ranged Time x = is_station x
five_ranged _ x = true

-- the range of the group after a place; one of another shape is refused by check 3 before
abbrev pub ranged : Place → Group → Bool
ranged p g = on_five true (five_ranged p) g

-- the groups after a place are in range
unfoldable pub ranged_from : Place → List Group → Bool
ranged_from p [] = true
ranged_from p (g ∷ gs) = ranged p g && ranged_from (next p g) gs

-- check 4, "on the groups present"
abbrev pub check4 : List Group → Bool
check4 gs = ranged_from Start gs
