-- Laws of the parts: what stands in a 55 run is none that is read; a part that is read is a group of five characters, so that nothing is
-- lost by keeping characters alone; and how the parts that are kept go on by one group.
-- Assumes nothing.
use mathlib.Core.Path.{◌≡◌, refl, sym, ◌∙◌, subst}
use mathlib.Core.Bool.{true, false, not, ◌&&◌}
use mathlib.Core.List.{List}
use Prim.Native.Nat.{ℕ, ◌<◌}
use lib.Dec.{eqb, leb, ltb, lit<}
use lib.ListN.{length, get_or, length-set}
use lib.Seq.{get_or-set_same, get_or-set_other}
use borrow.Author.Tests.{eqb-true, eqb-false}
use Rattle.std.specs.Prelude.{Option, Some, None}
use Rattle.std.specs.Option.{option_or, is_some}
use Rattle.laws.proofs.Bools.{Known, is_true, is_false, known, by_cond, cond_false, and_false_right}
use Rattle.synop_text.specs.declared.Characters.{Characters}
use Rattle.synop_text.specs.Kinds.{characters_of}
use Rattle.synop_text.specs.declared.Group.{Group}
use Rattle.synop_text.specs.declared.Group.TheVariants.{Other, Aaxx, Nil, Section, Five}
use Rattle.synop_text.specs.Places.{begun, aaxx_after, section_of, opened, next}
use Rattle.synop_text.specs.declared.order.Place.{Place}
use Rattle.synop_text.specs.declared.order.Place.TheVariants.{Station}
use Rattle.synop_parts.specs.declared.Part.{Part}
use Rattle.synop_parts.specs.declared.Part.TheVariants as which
use Rattle.synop_parts.specs.Parts.{number, count, of_later, part_of, keep, only, part}

-- "After a group beginning 55, groups with first character 0 to 6 are skipped": a 6 there is no R, and none that is present
pub run_unread : (n : ℕ) (g : Group) → of_later n true g ≡ None
unfolding of_later
run_unread n g = search (cond_false, and_false_right)

-- with the place that the group is given, after any other
pub read_five : (p : Place) (g : Group) → is_some (part_of (next p g) g) ≡ true → is_some (characters_of g) ≡ true
unfolding aaxx_after opened of_later characters_of
read_five p (Five x) h = refl
read_five p Other h = h
read_five p Aaxx h = by_cond (λ q. is_some (part_of q Aaxx) ≡ true → false ≡ true) (begun p) (λ _ e. e) (λ _ e. e) h
read_five Station Nil h = h
read_five _ Nil h = h
read_five p (Section m) h =
    by_cond (λ q. is_some (part_of q (Section m)) ≡ true → false ≡ true) (leb 1 (section_of p) && ltb (section_of p) m)
    (λ _. by_cond (λ (o : Option Part). is_some o ≡ true → false ≡ true) (eqb m 3 && not false) (λ _ e. e) (λ _ e. e)) (λ _ e. e) h

number_below : (q : Part) → number q < count
number_below which.Time = lit< tt
number_below which.Station = lit< tt
number_below which.Visibility = lit< tt
number_below which.Wind = lit< tt
number_below which.Gale = lit< tt
number_below which.Temperature = lit< tt
number_below which.DewPoint = lit< tt
number_below which.Pressure = lit< tt
number_below which.Rain = lit< tt
number_below which.Maximum = lit< tt
number_below which.Minimum = lit< tt
number_below which.LaterRain = lit< tt

pub or_assoc : {A : Type 0} (x y z : Option A) → option_or x (option_or y z) ≡ option_or (option_or x y) z
or_assoc None y z = refl
or_assoc (Some a) y z = refl

pub or_none : {A : Type 0} (x : Option A) → option_or x None ≡ x
or_none None = refl
or_none (Some a) = refl

-- ---- the parts that are kept, after one group more, which is the part o and has the characters x
pub keep_long : (kept : List (Option Characters)) (o : Option Part) (x : Option Characters) → length (keep kept o x) ≡ length kept
keep_long kept None x = refl
keep_long kept (Some q) x = length-set kept (number q) (option_or (part kept q) x)

pub keep_at : (kept : List (Option Characters)) (o : Option Part) (x : Option Characters) (j : ℕ) → length kept ≡ count
    → get_or (keep kept o x) j None ≡ option_or (get_or kept j None) (only j o x)
keep_at kept None x j long = sym (or_none (get_or kept j None))
keep_at kept (Some q) x j long = by (known (eqb (number q) j))
  where
    new : Option Characters
    new = option_or (part kept q) x

    by : Known (eqb (number q) j) → get_or (keep kept (Some q) x) j None ≡ option_or (get_or kept j None) (only j (Some q) x)
    by (is_true e) =
        let same : number q ≡ j = eqb-true (number q) j e in
        rw (e, ← same) (get_or-set_same kept (number q) new None (subst (λ (n : ℕ). number q < n) (sym long) (number_below q)))
    by (is_false e) =
        rw e
        (get_or-set_other kept (number q) j new None (λ r. eqb-false (number q) j e (sym r)) ∙ sym (or_none (get_or kept j None)))
