-- What callers need of a text: whatever it is, its number, its identification, its indicators and its values are in their ranges.
-- Assumes nothing.
use mathlib.Core.Path.{◌≡◌, refl, sym, subst}
use mathlib.Core.Bool.{Bool, true, false, cond, ◌&&◌}
use mathlib.Core.List.{List, [], ◌∷◌}
use Prim.Native.Nat.{ℕ, ◌+◌, ◌-◌, ◌*◌, ◌<◌, ◌≤◌}
use native.Mathlib.Omega.{arith}
use lib.Dec.{T, leb, eqb, lit≤}
use borrow.Author.Tests.{leb-true, leb-false, eqb-true, eqb-false}
use Rattle.laws.specs.Table.{table}
use Rattle.laws.proofs.Bools.{and_left, and_right, Known, is_true, is_false, known}
use Rattle.synop_values.specs.Digits.{digit, two, three, four, given}
use Rattle.laws.proofs.Bools.{by_cond}
use Rattle.std.specs.Prelude.{Option, Some, None}
use Rattle.synop_text.specs.Characters.{is_digit}
use Rattle.synop_text.specs.Kinds.{tokens, characters_of}
use Rattle.synop_text.specs.declared.Characters.{Characters}
use Rattle.synop_text.specs.declared.Group.{Group}
use Rattle.synop_text.specs.declared.Group.TheVariants.{Other, Aaxx, Nil, Section, Five}
use Rattle.synop_checks.specs.Bytes.{check1, check2}
use Rattle.synop_text.specs.Places as places
use Rattle.synop_text.specs.Places.{final, check5}
use Rattle.synop_checks.specs.Shapes.{are_digits, shaped_from, check3}
use Rattle.synop_checks.specs.Ranges.{is_day, is_hour, is_unit, is_time, is_station, ranged_from, check4}
use Rattle.synop_checks.specs.Refusal.{of_groups, refusal}
use Rattle.synop_text.specs.declared.order.Place.{Place}
use Rattle.synop_text.specs.declared.order.Place.TheVariants.{Start, Station}
use Rattle.synop_parts.specs.Parts as parts
use Rattle.synop_parts.specs.Parts.{part, first}
use Rattle.synop_parts.specs.declared.Part.TheVariants as which
use Rattle.synop.specs.Contents.{number_of, two_of, station_of, identification_of}
use Rattle.synop.proofs.Numbers.{four_number, digit_number}
use Rattle.synop.proofs.ContentRanges.{IndicatorsFit, ValuesFit, indicators_fit, values_fit}
use Rattle.synop.specs.Report.{Report, refused, nil, whole, rain_group, content, read, report}
use Rattle.synop.specs.declared.contents.Identification.{Identification}

-- ---- the ranges
-- IIiii 1 to 99999, YY 1 to 31, GG 0 to 23
pub record Named (h : Identification) : Type 0 where
  pub station_least : 1 ≤ h.station
  pub station_most : h.station ≤ 99999
  pub day_least : 1 ≤ h.day
  pub day_most : h.day ≤ 31
  pub hour_most : h.hour ≤ 23

-- a refusal's number is 1 to 5
abbrev pub InRange : Report → Type 0
InRange (refused n) = (1 ≤ n) × (n ≤ 5)
InRange (nil h) = Named h
InRange (whole h d vs) = Named h × IndicatorsFit d × ValuesFit vs

-- ---- the heading, of groups that pass checks 3, 4 and 5
apart : {A : Type 0} → false ≡ true → A
apart e = absurd (subst T (sym e) tt)

-- the groups begin with `AAXX`, a YYGGiw that is in range and an IIiii of digits that is not 00000
data Begins : List Group → Type 0 where
  begins : (x y : Characters) (rest : List Group) → is_time x ≡ true → are_digits y ≡ true → is_station y ≡ true → Begins (Aaxx ∷ Five x ∷ Five y ∷ rest)

passing : (gs : List Group) → check3 gs ≡ true → check4 gs ≡ true → check5 gs ≡ true → Begins gs
unfolding shaped_from ranged_from final places.complete places.aaxx_after
passing [] p q r = apart p
passing (Other ∷ gs) p q r = apart p
passing (Nil ∷ gs) p q r = apart p
passing (Section m ∷ gs) p q r = apart p
passing (Five x ∷ gs) p q r = apart p
passing (Aaxx ∷ []) p q r = apart r
passing (Aaxx ∷ Other ∷ gs) p q r = apart p
passing (Aaxx ∷ Aaxx ∷ gs) p q r = apart p
passing (Aaxx ∷ Nil ∷ gs) p q r = apart p
passing (Aaxx ∷ Section m ∷ gs) p q r = apart p
passing (Aaxx ∷ Five x ∷ []) p q r = apart r
passing (Aaxx ∷ Five x ∷ Other ∷ gs) p q r = apart (and_right (are_digits x) false p)
passing (Aaxx ∷ Five x ∷ Aaxx ∷ gs) p q r = apart (and_right (are_digits x) false p)
passing (Aaxx ∷ Five x ∷ Nil ∷ gs) p q r = apart (and_right (are_digits x) false p)
passing (Aaxx ∷ Five x ∷ Section m ∷ gs) p q r = apart (and_right (are_digits x) false p)
passing (Aaxx ∷ Five x ∷ Five y ∷ rest) p q r =
    let shapes = and_right (are_digits x) (are_digits y && shaped_from Station rest) p in
    let ranges = and_right (is_time x) (is_station y && ranged_from Station rest) q in
    begins x y rest (and_left (is_time x) (is_station y && ranged_from Station rest) q) (and_left (are_digits y) (shaped_from Station rest) shapes)
    (and_left (is_station y) (ranged_from Station rest) ranges)

-- a test that a number passes
given_true : (n : Option ℕ) (f : ℕ → Bool) → given n false f ≡ true → f (number_of n) ≡ true
given_true None f e = apart e
given_true (Some n) f e = e

digit_of : (c : ℕ) → is_digit c ≡ true → digit c ≡ Some (c - 48)
digit_of c e = rw (and_left (leb 48 c) (leb c 57) e, and_right (leb 48 c) (leb c 57) e)

from_0 : (c : ℕ) → is_digit c ≡ true → 48 ≤ c
from_0 c e = leb-true 48 c (and_left (leb 48 c) (leb c 57) e)

module _ (y : Characters) (digits : are_digits y ≡ true) where
  -- each of the five is a digit
  five : (is_digit y.a ≡ true) × (is_digit y.b ≡ true) × (is_digit y.c ≡ true) × (is_digit y.d ≡ true) × (is_digit y.e ≡ true)
  unfolding are_digits
  five =
      let abcd = and_left (((is_digit y.a && is_digit y.b) && is_digit y.c) && is_digit y.d) (is_digit y.e) digits in
      let abc = and_left ((is_digit y.a && is_digit y.b) && is_digit y.c) (is_digit y.d) abcd in
      let ab = and_left (is_digit y.a && is_digit y.b) (is_digit y.c) abc in (
        and_left (is_digit y.a) (is_digit y.b) ab,
        and_right (is_digit y.a) (is_digit y.b) ab,
        and_right (is_digit y.a && is_digit y.b) (is_digit y.c) abc,
        and_right ((is_digit y.a && is_digit y.b) && is_digit y.c) (is_digit y.d) abcd,
        and_right (((is_digit y.a && is_digit y.b) && is_digit y.c) && is_digit y.d) (is_digit y.e) digits,
      )

  number : ℕ
  number = 10 * (10 * (10 * (10 * (y.a - 48) + (y.b - 48)) + (y.c - 48)) + (y.d - 48)) + (y.e - 48)

  is_number : station_of y ≡ number
  unfolding number four three two station_of
  is_number = rw (digit_of y.a five.0, digit_of y.b five.1, digit_of y.c five.2, digit_of y.d five.3, digit_of y.e five.4)

  above_0 : is_station y ≡ true → 1 ≤ number
  unfolding number is_station
  above_0 e = by (known (leb 1 number))
    where
      all_0 : y.a ≡ 48 → y.b ≡ 48 → y.c ≡ 48 → y.d ≡ 48 → y.e ≡ 48 → ⊥
      all_0 p q r s t = apart (rw (p, q, r, s, t) at e)

      by : Known (leb 1 number) → 1 ≤ number
      by (is_true l) = leb-true 1 number l
      by (is_false l) =
          let z : number < 1 = leb-false 1 number l in
          let a = from_0 y.a five.0 in
          let b = from_0 y.b five.1 in
          let c = from_0 y.c five.2 in
          let d = from_0 y.d five.3 in
          let k = from_0 y.e five.4 in
          absurd (all_0 (omega arith) (omega arith) (omega arith) (omega arith) (omega arith))

station_most : (y : Characters) → station_of y ≤ 99999
unfolding station_of
station_most y =
    let n = four_number y.a y.b y.c y.d in
    let k = digit_number y.e in
    omega arith

named : (x y : Characters) → is_time x ≡ true → are_digits y ≡ true → is_station y ≡ true → Named (identification_of (Some x) (Some y))
unfolding is_time is_day is_hour identification_of two_of
named x y time digits station =
    record {
      station_least = rw (is_number y digits) (above_0 y digits station);
      station_most = station_most y;
      day_least = leb-true 1 yy (and_left (leb 1 yy) (leb yy 31) day);
      day_most = leb-true yy 31 (and_right (leb 1 yy) (leb yy 31) day);
      hour_most = leb-true (number_of (two x.c x.d)) 23 hour;
    }
  where
    yy : ℕ
    yy = number_of (two x.a x.b)

    first_two : (is_day x.a x.b && is_hour x.c x.d) ≡ true
    first_two = and_left (is_day x.a x.b && is_hour x.c x.d) (is_unit x.e) time

    day : (leb 1 yy && leb yy 31) ≡ true
    day = given_true (two x.a x.b) (λ k. leb 1 k && leb k 31) (and_left (is_day x.a x.b) (is_hour x.c x.d) first_two)

    hour : leb (number_of (two x.c x.d)) 23 ≡ true
    hour = given_true (two x.c x.d) (λ gg. leb gg 23) (and_right (is_day x.a x.b) (is_hour x.c x.d) first_two)

-- ---- the whole
heading_named : (gs : List Group) → Begins gs → Named (identification_of (part (parts.parts gs) which.Time) (part (parts.parts gs) which.Station))
unfolding parts.parts table first places.aaxx_after characters_of
heading_named gs (begins x y rest time digits station) = named x y time digits station

content_in_range : (gs : List Group) (p : Place) → Begins gs → InRange (content p (parts.parts gs))
unfolding content
content_in_range gs p b =
    let kept = parts.parts gs in
    let group = part kept in
    by_cond InRange (places.is_nil p) (λ _. heading_named gs b)
    (λ _. (
      heading_named gs b,
      indicators_fit (group which.Visibility) (group which.Wind) (rain_group kept),
      values_fit kept (rain_group kept),
    ))

-- the checks that a text passes whose number is 0, and the most that the number can be
passed : (a b c d e : Bool) →
    let n : ℕ = cond a (cond b (cond c (cond d (cond e 0 5) 4) 3) 2) 1 in
    (n ≡ 0 → (c ≡ true) × (d ≡ true) × (e ≡ true)) × (n ≤ 5)
passed true true true true true = (λ _. (refl, refl, refl), lit≤ tt)
passed true true true true false = (λ z. absurd (omega arith), lit≤ tt)
passed true true true false e = (λ z. absurd (omega arith), lit≤ tt)
passed true true false d e = (λ z. absurd (omega arith), lit≤ tt)
passed true false c d e = (λ z. absurd (omega arith), lit≤ tt)
passed false b c d e = (λ z. absurd (omega arith), lit≤ tt)

pub report_in_range : (s : List ℕ) → InRange (report s)
unfolding report read refusal of_groups
report_in_range s =
    by_cond InRange (eqb (refusal s) 0)
    (λ e. let ok = all.0 (eqb-true (refusal s) 0 e) in content_in_range gs (final Start gs) (passing gs ok.0 ok.1 ok.2))
    (λ e. (one (refusal s) (eqb-false (refusal s) 0 e), all.1))
  where
    gs : List Group
    gs = tokens s

    all : (refusal s ≡ 0 → (check3 gs ≡ true) × (check4 gs ≡ true) × (check5 gs ≡ true)) × (refusal s ≤ 5)
    all = passed (check1 s) (check2 s) (check3 gs) (check4 gs) (check5 gs)

    one : (n : ℕ) → (n ≡ 0 → ⊥) → 1 ≤ n
    one n h = omega arith
