-- How the groups of a text go on: past the blanks before a group, and past the group.
-- Assumes nothing.
use mathlib.Core.Path.{◌≡◌, refl, sym, ◌∙◌, ap, subst}
use mathlib.Core.Bool.{true, false, not}
use mathlib.Core.List.{List, [], ◌∷◌, ◌++◌, append-nil, append_assoc}
use Prim.Native.Nat.{ℕ, suc, ◌+◌, ◌<◌, ◌≤◌}
use native.Mathlib.Omega.{arith}
use borrow.Author.Tests.{ltb-false}
use lib.Dec.{ltb}
use lib.ListN.{length, take, drop, drop_of_length-le, length-drop}
use lib.Seq.{take-length}
use Rattle.std.proofs.lemmas.List.{drop-drop}
use Rattle.std.specs.Prelude.{None, Some, slice_range}
use Rattle.std.specs.Option.{unwrap_or}
use Rattle.std.specs.List.{position, position_or_len}
use Rattle.std.proofs.lemmas.List.Sums.{prefix_len-le-length}
use Rattle.laws.proofs.Bools.{is_true, is_false, known}
use Rattle.laws.proofs.Positions.{position_some, position_none}
use Rattle.synop_text.specs.Characters.{parts}
use Rattle.synop_text.specs.Groups.{cut, groups, closed}
use Rattle.synop_text.specs.Walk.{Bounds}

-- the characters before the next group, and those of the group
abbrev gap_of : List ℕ → ℕ
gap_of s = position_or_len (λ b. not (parts b)) s

abbrev run_of : List ℕ → ℕ
run_of s = position_or_len parts s

-- each, and the groups, one character further
run_blank : (b : ℕ) (s : List ℕ) → parts b ≡ true → run_of (b ∷ s) ≡ 0
run_blank b s t = rw t

run_more : (b : ℕ) (s : List ℕ) → parts b ≡ false → run_of (b ∷ s) ≡ suc (run_of s)
run_more b s f = rw f (omega arith)

gap_blank : (b : ℕ) (s : List ℕ) → parts b ≡ true → gap_of (b ∷ s) ≡ suc (gap_of s)
gap_blank b s t = rw t (omega arith)

gap_none : (b : ℕ) (s : List ℕ) → parts b ≡ false → gap_of (b ∷ s) ≡ 0
gap_none b s f = rw f

cut_blank : (read : List ℕ) (b : ℕ) (s : List ℕ) → parts b ≡ true → cut read (b ∷ s) ≡ closed read (groups s)
unfolding cut
cut_blank read b s t = rw t

cut_more : (read : List ℕ) (b : ℕ) (s : List ℕ) → parts b ≡ false → cut read (b ∷ s) ≡ cut (read ++ b ∷ []) s
unfolding cut
cut_more read b s f = rw f

cut_end : (read : List ℕ) → cut read [] ≡ closed (read ++ []) (groups [])
unfolding cut
cut_end read = ap (λ (r : List ℕ). closed r []) (sym (append-nil read))

no_text : groups [] ≡ []
unfolding cut
no_text = refl

-- a group of which `read` has been read goes on to the next blank
past_run : (read s : List ℕ) → cut read s ≡ closed (read ++ take (run_of s) s) (groups (drop (run_of s) s))
past_run read [] = cut_end read
past_run read (b ∷ s) =
    elim (known (parts b)) [
      | is_true t ↦ rw (run_blank b s t, append-nil, cut_blank read b s t, cut_blank [] b s t) refl
      | is_false f ↦
          rw (run_more b s f, cut_more read b s f) (past_run (read ++ b ∷ []) s ∙ ap (λ (r : List ℕ). closed r (groups (drop (run_of s) s))) (append_assoc read (b ∷ []) (take (run_of s) s)))
    ]

-- `rest` begins with a group, which is the first of s
record Starts (s rest : List ℕ) : Type 0 where
  some : 0 < run_of rest
  first : groups s ≡ take (run_of rest) rest ∷ groups (drop (run_of rest) rest)

-- past the blanks a text begins with its first group
starts : (s : List ℕ) → gap_of s < length s → Starts s (drop (gap_of s) s)
starts [] h = absurd (omega arith)
starts (b ∷ s) h =
    elim (known (parts b)) [
      | is_true t ↦
          rw (gap_blank b s t) (let v = starts s (omega (arith, gap_blank b s t)) in record { some = v.some; first = cut_blank [] b s t ∙ v.first })
      | is_false f ↦
          rw (gap_none b s f) (record { some = rw (run_more b s f) (omega arith); first = cut_more [] b s f ∙ past_run (b ∷ []) s ∙ rw (run_more b s f) refl })
    ]

-- a text in which no group starts has none
no_group : (s : List ℕ) → length s ≤ gap_of s → groups s ≡ []
no_group [] h = no_text
no_group (b ∷ s) h =
    elim (known (parts b)) [
      | is_true t ↦ cut_blank [] b s t ∙ no_group s (omega (arith, gap_blank b s t))
      | is_false f ↦ let g = gap_none b s f in absurd (omega arith)
    ]

-- ---- what the code finds
-- the next blank, or the end of the text
run_is : (s : List ℕ) → unwrap_or (position parts s) (length s) ≡ run_of s
run_is s =
    elim (known (ltb (run_of s) (length s))) [
      | is_true t ↦ rw t refl
      | is_false f ↦ rw f (omega (arith, ltb-false (run_of s) (length s) f, prefix_len-le-length (λ b. not (parts b)) s))
    ]

-- no group starts past the end
pub none_left : (s : List ℕ) (at : ℕ) → length s ≤ at → groups (drop at s) ≡ []
none_left s at h = rw (drop_of_length-le s h) no_text

-- the text from a place on, as the code has it
tail : (s : List ℕ) (at : ℕ) → slice_range s at (length s) ≡ drop at s
tail s at = ap (λ (n : ℕ). take n (drop at s)) (sym (length-drop at s)) ∙ take-length (drop at s)

pub none_after : (s rest : List ℕ) (at : ℕ) → rest ≡ slice_range s at (length s) → position (λ b. not (parts b)) rest ≡ None → groups (drop at s) ≡ []
none_after s rest at r e = ap groups (sym (r ∙ tail s at)) ∙ no_group rest (position_none (λ b. not (parts b)) rest e)

-- a step
bounds : (s : List ℕ) (at start n : ℕ) → at ≤ start → start ≤ length s → Starts (drop at s) (drop start s) → n ≡ run_of (drop start s) → Bounds s at start (start + n)
bounds s at start n l u v e =
    record {
      ordered = omega arith;
      upto = omega (arith, prefix_len-le-length (λ b. not (parts b)) (drop start s), length-drop start s);
      onward = let p = v.some in omega arith;
      first = v.first ∙ rw (sym e, drop-drop) (ap (λ (k : ℕ). take k (drop start s) ∷ groups (drop (start + n) s)) (omega arith));
    }

pub stepped : (s rest : List ℕ) (at j n : ℕ) → rest ≡ slice_range s at (length s) → position (λ b. not (parts b)) rest ≡ Some j → n ≡ unwrap_or (position parts (slice_range s (at + j) (length s))) (length (slice_range s (at + j) (length s))) → Bounds s at (at + j) (at + j + n)
stepped s rest at j n r e h = bounds s at (at + j) n (omega arith) (omega (arith, p, ap length from, length-drop at s)) here (h ∙ run_is (slice_range s (at + j) (length s)) ∙ ap run_of (tail s (at + j)))
  where
    p : (j ≡ gap_of rest) × (gap_of rest < length rest)
    p = position_some (λ b. not (parts b)) rest j e

    from : rest ≡ drop at s
    from = r ∙ tail s at

    there : drop (gap_of rest) rest ≡ drop (at + j) s
    there = ap (λ (k : ℕ). drop k rest) (sym p.0) ∙ ap (drop j) from ∙ drop-drop j at s

    here : Starts (drop at s) (drop (at + j) s)
    here = subst (λ (t : List ℕ). Starts (drop at s) t) there (subst (λ (t : List ℕ). Starts t (drop (gap_of rest) rest)) from (starts rest p.1))
