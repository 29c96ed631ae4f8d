-- Check 3, the shape of each group at its place: "Groups are five characters, digits or `/`, except `AAXX`, `NIL`, `333`, `444`,
-- `555`; YYGGiw and IIiii are five digits; a breach is 3".
-- Assumes nothing.
use Rattle.std.specs.Prelude.{Bool, true, false, ◌&&◌, List, [], ◌∷◌}
use Rattle.synop_text.specs.Characters.{is_digit}
use Rattle.synop_text.specs.declared.Characters.{Characters}
use Rattle.synop_text.specs.declared.Group.{Group}
use Rattle.synop_text.specs.Kinds.{on_five}
use Rattle.synop_text.specs.declared.Group.TheVariants.{Other, Aaxx, Nil}
use Rattle.synop_text.specs.declared.order.Place.{Place}
use Rattle.synop_text.specs.declared.order.Place.TheVariants.{Start, Letters, Time, Station, Nothing}
use Rattle.synop_text.specs.Places.{begun, next}

-- "first not `AAXX`"
abbrev pub is_aaxx : Group → Bool
is_aaxx Aaxx = true
is_aaxx _ = false

unfoldable pub are_digits : Characters → Bool
are_digits x = (((is_digit x.a && is_digit x.b) && is_digit x.c) && is_digit x.d) && is_digit x.e

-- "YYGGiw and IIiii are five digits"
abbrev pub is_digits : Group → Bool
is_digits g = on_five false are_digits g

-- any of the shapes; `NIL` only where it may stand: "NIL not fourth and last"
abbrev pub is_group : Bool → Group → Bool
is_group nil Other = false
is_group nil Nil = nil
is_group nil _ = true

-- the shape of the group after a place; after `NIL` there is none
abbrev pub shaped : Place → Group → Bool
shaped Start g = is_aaxx g
shaped Letters g = is_digits g
shaped Time g = is_digits g
shaped Station g = is_group true g
shaped Nothing g = false
shaped _ g = is_group false g

-- the groups after a place have their shapes
unfoldable pub shaped_from : Place → List Group → Bool
shaped_from p [] = begun p
shaped_from p (g ∷ gs) = shaped p g && shaped_from (next p g) gs

-- check 3: "group shape; first not `AAXX`; NIL not fourth and last"
abbrev pub check3 : List Group → Bool
check3 gs = shaped_from Start gs
