-- What a text is: refused with a number, a report that says nothing, or a whole one; and the same of the code's answer.
-- Assumes nothing.
use Rattle.std.specs.Prelude.{Bool, cond, ◌&&◌, List, ℕ, eqb, Option, Result, Ok, Err}
use Rattle.std.specs.Option.{option_or}
use Rattle.refusals.specs.Refusals.{number}
use Rattle.refusals.specs.declared.Refusal as why
use Rattle.synop_values.specs.Value as codes
use Rattle.synop_text.specs.Kinds.{tokens}
use Rattle.synop_text.specs.declared.Characters.{Characters}
use Rattle.synop_text.specs.declared.Group.{Group}
use Rattle.synop_text.specs.Places.{begun, is_nil, final, complete}
use Rattle.synop_checks.specs.Refusal.{refusal}
use Rattle.synop_text.specs.declared.order.Place.{Place}
use Rattle.synop_text.specs.declared.order.Place.TheVariants.{Start}
use Rattle.synop_parts.specs.Parts as parts
use Rattle.synop_parts.specs.Parts.{part}
use Rattle.synop_parts.specs.declared.Part.TheVariants as which
use Rattle.synop.specs.Contents.{identification_of, indicators_of, values_of, listed}
use Rattle.synop.specs.declared.contents.Identification.{Identification}
use Rattle.synop.specs.declared.contents.Indicators.{Indicators}
use Rattle.synop.specs.declared.Report as code
use Rattle.synop.specs.declared.Report.TheVariants.{Nil, Whole}

pub data Report : Type 0 where
  refused : ℕ → Report
  nil : Identification → Report
  whole : Identification → Indicators → List codes.Value → Report

-- ---- the parts together
-- "6RRRtR of section 1, or, where that group is not there, of section 3"
abbrev pub rain_group : List (Option Characters) → Option Characters
rain_group kept = option_or (part kept which.Rain) (part kept which.LaterRain)

-- ---- what a text is
-- a report that passes, by the place of its last group and its parts
unfoldable pub content : Place → List (Option Characters) → Report
content p kept =
    cond (is_nil p) (nil (identification_of (part kept which.Time) (part kept which.Station)))
    (whole (identification_of (part kept which.Time) (part kept which.Station))
    (indicators_of (part kept which.Visibility) (part kept which.Wind) (rain_group kept))
    (values_of kept (rain_group kept)))

-- n is the number of the first check that fails, or 0
unfoldable pub read : ℕ → List Group → Report
read n gs = cond (eqb n 0) (content (final Start gs) (parts.parts gs)) (refused n)

-- the same from where a walk over the groups ends: the place of the last group, whether all had their shapes and were in range, and
-- the parts. A group without its shape ends the walk.
unfoldable pub answered : Place → Bool → Bool → List (Option Characters) → Report
answered p shaped ranged kept = cond (shaped && begun p) (cond ranged (cond (complete p) (content p kept) (refused 5)) (refused 4)) (refused 3)

-- what a text is
unfoldable pub report : List ℕ → Report
report s = read (refusal s) (tokens s)

-- ---- the code's answer
abbrev pub passed : code.Report → Report
passed (Nil h) = nil h
passed (Whole h d v) = whole h d (listed v)

abbrev pub meaning : Result code.Report why.Refusal → Report
meaning (Ok r) = passed r
meaning (Err e) = refused (number e)
