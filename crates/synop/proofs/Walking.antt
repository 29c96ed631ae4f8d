-- The walk over the groups: what the checks and the parts are, from what is read and what is left.
--     none      before the first group
--     more      one group further
--     stop      a group without its shape
--     past      after the last group
-- Assumes nothing.
use mathlib.Core.Path.{◌≡◌, refl, sym, ◌∙◌, ap}
use mathlib.Core.Bool.{Bool, true, false, cond, ◌&&◌, and_assoc, and-true}
use mathlib.Core.List.{List, []}
use Prim.Native.Nat.{ℕ, ◌<◌, ◌≤◌}
use native.Mathlib.Omega.{arith}
use lib.Dec.{eqb}
use lib.ListN.{length, drop, get_or, length-replicate, get_or-replicate}
use Rattle.std.specs.Prelude.{Option, None}
use Rattle.std.specs.Option.{option_or}
use Rattle.laws.proofs.Bools.{via}
use Rattle.laws.proofs.Tables.{is_table}
use Rattle.synop_text.specs.Kinds.{tokens, characters_of}
use Rattle.synop_text.specs.Walk.{Kind}
use Rattle.synop_text.specs.declared.Group.{Group}
use Rattle.synop_text.specs.declared.Characters.{Characters}
use Rattle.synop_text.specs.Places.{begun, next, final, complete}
use Rattle.synop_checks.specs.Shapes.{shaped, shaped_from, check3}
use Rattle.synop_checks.specs.Ranges.{ranged, ranged_from, check4}
use Rattle.synop_checks.specs.Refusal.{of_groups}
use Rattle.synop_text.specs.declared.order.Place.{Place}
use Rattle.synop_text.specs.declared.order.Place.TheVariants.{Start}
use Rattle.synop_parts.specs.declared.Part.{Part}
use Rattle.synop_parts.specs.Parts as parts_of
use Rattle.synop_parts.specs.Parts.{count, part_of, keep, only, first, parts}
use Rattle.synop.specs.Report.{Report, refused, content, read, answered}
use Rattle.synop_parts.proofs.PartLaws.{keep_long, keep_at, or_assoc, or_none}

-- the groups before `at` have their shapes; p is the place of the last of them, `good` says whether all are in range, and `kept`
-- has the parts among them
pub record Walked (s : List ℕ) (kept : List (Option Characters)) (p : Place) (good : Bool) (at : ℕ) : Type 0 where
  pub long : length kept ≡ count
  pub upto : at ≤ length s
  pub shape : check3 (tokens s) ≡ shaped_from p (tokens (drop at s))
  pub range : check4 (tokens s) ≡ (good && ranged_from p (tokens (drop at s)))
  pub place : final Start (tokens s) ≡ final p (tokens (drop at s))
  pub each : (k : ℕ) → k < count → first k Start (tokens s) ≡ option_or (get_or kept k None) (first k p (tokens (drop at s)))

pub none : (s : List ℕ) → Walked s parts_of.none Start true 0
none s =
    record {
      long = length-replicate {A = Option Characters} count None;
      upto = omega arith;
      shape = refl;
      range = refl;
      place = refl;
      each = λ k h. rw (get_or-replicate {A = Option Characters} count k None None h);
    }

module _ {s : List ℕ} {kept : List (Option Characters)} {p : Place} {good : Bool} {at : ℕ} (w : Walked s kept p good at) where
  -- from what the code's calls answer: t the shape, r the range, q the place, after the parts
  pub more : {g : Group} {to : ℕ} {t r : Bool} {q : Place} {after : List (Option Characters)} → Kind s at g to → t ≡ shaped p g → t ≡ true → r ≡ ranged p g
      → q ≡ next p g → after ≡ keep kept (part_of q g) (characters_of g) → Walked s after q (good && r) to
  unfolding shaped_from ranged_from final first
  more {g} {to} {t} {r} {q} {after} step et ok er eq ea =
      rw (ea, eq, er) (record {
        long = keep_long kept o x ∙ w.long;
        upto = step.within;
        shape = w.shape ∙ ap (shaped_from p) step.first ∙ rw (via et ok);
        range = w.range ∙ ap (λ (gs : List Group). good && ranged_from p gs) step.first ∙ sym (and_assoc good (ranged p g) (ranged_from (next p g) rest));
        place = w.place ∙ ap (final p) step.first;
        each = λ j h.
            w.each j h
            ∙ ap (λ (gs : List Group). option_or (get_or kept j None) (first j p gs)) step.first
            ∙ or_assoc (get_or kept j None) (only j o x) (first j (next p g) rest)
            ∙ ap (λ (y : Option Characters). option_or y (first j (next p g) rest)) (sym (keep_at kept o x j w.long));
      })
    where
      rest : List Group
      rest = tokens (drop to s)

      o : Option Part
      o = part_of (next p g) g

      x : Option Characters
      x = characters_of g

  pub stop : {g : Group} {to : ℕ} {t : Bool} → Kind s at g to → t ≡ shaped p g → t ≡ false → answered p false good kept ≡ read (of_groups (tokens s)) (tokens s)
  unfolding shaped_from of_groups read answered
  stop {g} {to} step et bad = rw (w.shape, step.first, via et bad)

  pub past : tokens (drop at s) ≡ [] → answered p true good kept ≡ read (of_groups (tokens s)) (tokens s)
  unfolding shaped_from ranged_from final first parts of_groups read answered
  past e = sym (rw (shape, range, place, ← whole) (settled (begun p) good (complete p) (content p kept)))
    where
      shape : check3 (tokens s) ≡ begun p
      shape = w.shape ∙ ap (shaped_from p) e

      range : check4 (tokens s) ≡ good
      range = w.range ∙ ap (λ (gs : List Group). good && ranged_from p gs) e ∙ and-true good

      place : final Start (tokens s) ≡ p
      place = w.place ∙ ap (final p) e

      whole : kept ≡ parts (tokens s)
      whole =
          is_table count (λ k. first k Start (tokens s)) kept None w.long
          (λ k h. sym (w.each k h ∙ ap (λ (gs : List Group). option_or (get_or kept k None) (first k p gs)) e ∙ or_none (get_or kept k None)))

      settled : (b r m : Bool) (x : Report) →
          let n : ℕ = cond b (cond r (cond m 0 5) 4) 3 in
          cond (eqb n 0) x (refused n) ≡ cond b (cond r (cond m x (refused 5)) (refused 4)) (refused 3)
      settled true true true x = refl
      settled true true false x = refl
      settled true false m x = refl
      settled false r m x = refl
