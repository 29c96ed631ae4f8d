-- Check 5, order: the place of each group, from the place of the one before. Document 01, "A report":
-- "`AAXX`, YYGGiw, IIiii, then `NIL` and the end, or iRixhVV, Nddff, (00fff), section 1 groups with first digits 1 to 9 strictly
-- ascending, then optionally a group beginning 222, `333`, `444`, `555` in this order, each with its groups."
-- Assumes nothing.
use Rattle.std.specs.Prelude.{Bool, true, false, not, cond, ◌&&◌, ◌||◌, List, [], ◌∷◌, ℕ, leb, ltb, eqb}
use Rattle.synop_text.specs.declared.Characters.{Characters}
use Rattle.synop_text.specs.declared.Group.{Group}
use Rattle.synop_text.specs.declared.Group.TheVariants.{Other, Aaxx, Nil, Section, Five}
use Rattle.synop_text.specs.declared.order.Place.{Place}
use Rattle.synop_text.specs.declared.order.Place.TheVariants.{Start, Letters, Time, Station, Nothing, Visibility, Wind, Gale, One, Later, Wrong}

-- there was a group
abbrev pub begun : Place → Bool
begun Start = false
begun _ = true

-- `AAXX` comes first; "a wrong place .., `AAXX` again included"
unfoldable pub aaxx_after : Place → Place
aaxx_after p = cond (begun p) Wrong Letters

-- after IIiii "`NIL` and the end"
abbrev pub nil_after : Place → Place
nil_after Station = Nothing
nil_after _ = Wrong

-- the number of the section that a place is in, 0 for none; section 1 begins after iRixhVV
abbrev pub section_of : Place → ℕ
section_of (Wind strong) = 1
section_of Gale = 1
section_of (One last) = 1
section_of (Later n run) = n
section_of _ = 0

-- "then optionally .. `333`, `444`, `555` in this order": section m after section n
unfoldable pub opened : ℕ → ℕ → Place
opened n m = cond (leb 1 n && ltb n m) (Later m false) Wrong

-- "section 1 groups with first digits 1 to 9 strictly ascending"; "In section 1 a group beginning 222 always opens section 2"
unfoldable pub ordered : ℕ → Characters → Place
ordered last x = cond ((eqb x.a 50 && eqb x.b 50) && eqb x.c 50) (Later 2 false) (cond (ltb last x.a) (One x.a) Wrong)

-- "A group 00fff may stand only right after Nddff and only if ff is 99"
unfoldable pub first_of_one : Bool → Characters → Place
first_of_one strong x = cond ((strong && eqb x.a 48) && eqb x.b 48) Gale (ordered 48 x)

-- "After a group beginning 55, groups with first character 0 to 6 are skipped until a 7, 8 or 9"
abbrev pub runs : Bool → Characters → Bool
runs run x = (eqb x.a 53 && eqb x.b 53) || (run && not (leb 55 x.a && leb x.a 57))

-- five characters
abbrev pub five_after : Place → Characters → Place
five_after Letters x = Time
five_after Time x = Station
five_after Station x = Visibility
five_after Visibility x = Wind (eqb x.d 57 && eqb x.e 57)
five_after (Wind strong) x = first_of_one strong x
five_after Gale x = ordered 48 x
five_after (One last) x = ordered last x
five_after (Later n run) x = Later n (runs run x)
five_after _ x = Wrong

-- the place of a group, after the place of the one before
abbrev pub next : Place → Group → Place
next p Other = Wrong
next p Aaxx = aaxx_after p
next p Nil = nil_after p
next p (Section m) = opened (section_of p) m
next p (Five x) = five_after p x

-- the place of the last group
unfoldable pub final : Place → List Group → Place
final p [] = p
final p (g ∷ gs) = final (next p g) gs

-- the report ended with `NIL`
abbrev pub is_nil : Place → Bool
is_nil Nothing = true
is_nil _ = false

-- where a report may end: with `NIL` or in a section. "too few groups" is before Nddff.
unfoldable pub complete : Place → Bool
complete p = is_nil p || leb 1 (section_of p)

-- check 5: "too few groups, or order"
abbrev pub check5 : List Group → Bool
check5 gs = complete (final Start gs)
