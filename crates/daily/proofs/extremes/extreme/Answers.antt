-- `daily::extremes::extreme` meets its contract: the slot that the fold leaves leads all eight, so it is the rule's.
use mathlib.Core.Path.{refl, sym, ◌∙◌, ap}
use Rattle.std.proofs.Common.{true, false, rules}
use Rattle.std.proofs.lemmas.Iterator.{YieldsList-from_range}
use Rattle.quality.specs.Cell.{missing}
use Rattle.quality.specs.Coded.{cells}
use Rattle.daily.proofs.Scan.{folded, ended}
use Rattle.daily.proofs.extremes.extreme.Goals as goal

pub at-requires : goal.at-requires
at-requires c =
    let h = folded c.args.tie c.args.warmer (cells c.args.t) _ _ c.fold-best.ensures.ran (YieldsList-from_range 1 8 7 refl refl) (λ j k i q r. search rules) in
    let w = h.within in
    search rules

pub returns-then-is_missing : goal.returns-then-is_missing
returns-then-is_missing c =
    let h = folded c.args.tie c.args.warmer (cells c.args.t) _ _ c.fold-best.ensures.ran (YieldsList-from_range 1 8 7 refl refl) (λ j k i q r. search rules) in
    ended _ _ _ _ h true (sym (c.is_missing.ensures ∙ ap missing c.at.ensures) ∙ c.if-is_missing.true)

pub returns-else-is_missing : goal.returns-else-is_missing
returns-else-is_missing c =
    let h = folded c.args.tie c.args.warmer (cells c.args.t) _ _ c.fold-best.ensures.ran (YieldsList-from_range 1 8 7 refl refl) (λ j k i q r. search rules) in
    ended _ _ _ _ h false (sym (c.is_missing.ensures ∙ ap missing c.at.ensures) ∙ c.if-is_missing.false)
