-- The number in what a text is, is the number of the first check that it fails.
-- Assumes nothing.
use mathlib.Core.Path.{◌≡◌, refl, sym, ◌∙◌, ap}
use mathlib.Core.List.{List}
use Prim.Native.Nat.{ℕ}
use lib.Dec.{eqb}
use borrow.Author.Tests.{eqb-true}
use Rattle.laws.proofs.Bools.{by_cond}
use Rattle.synop_text.specs.Kinds.{tokens}
use Rattle.std.specs.Prelude.{Option}
use Rattle.synop_text.specs.declared.Characters.{Characters}
use Rattle.synop_text.specs.declared.Group.{Group}
use Rattle.synop_text.specs.Places.{is_nil, final}
use Rattle.synop_checks.specs.Refusal.{refusal}
use Rattle.synop_text.specs.declared.order.Place.{Place}
use Rattle.synop_text.specs.declared.order.Place.TheVariants.{Start}
use Rattle.synop_parts.specs.Parts.{parts}
use Rattle.synop.specs.Report.{Report, refused, nil, whole, content, read, report, passed}
use Rattle.synop.specs.declared.Report as code
use Rattle.synop.specs.declared.Report.TheVariants.{Nil, Whole}

abbrev pub number_in : Report → ℕ
number_in (refused n) = n
number_in (nil h) = 0
number_in (whole h d v) = 0

of_content : (p : Place) (kept : List (Option Characters)) → number_in (content p kept) ≡ 0
unfolding content
of_content p kept = by_cond (λ r. number_in r ≡ 0) (is_nil p) (λ _. refl) (λ _. refl)

of_read : (n : ℕ) (gs : List Group) → number_in (read n gs) ≡ n
unfolding read
of_read n gs =
    by_cond (λ r. number_in r ≡ n) (eqb n 0) (λ e. of_content (final Start gs) (parts gs) ∙ sym (eqb-true n 0 e)) (λ _. refl)

pub number_report : (s : List ℕ) → number_in (report s) ≡ refusal s
unfolding report
number_report s = of_read (refusal s) (tokens s)

-- the same, of what `read` answers
pub of_refused : (s : List ℕ) (n : ℕ) → refused n ≡ report s → n ≡ refusal s
of_refused s n e = ap number_in e ∙ number_report s

pub of_passed : (s : List ℕ) (r : code.Report) → passed r ≡ report s → 0 ≡ refusal s
of_passed s (Nil h) e = ap number_in e ∙ number_report s
of_passed s (Whole h d v) e = ap number_in e ∙ number_report s
