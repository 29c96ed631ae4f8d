-- `daily_line::means::complete` meets its contract.
use mathlib.Core.Bool.{true, false, not}
use mathlib.Core.Path.{◌≡◌, refl}
use borrow.Author.Tests.{tests}
use Rattle.std.proofs.Common.{ℕ, rules}
use Rattle.std.proofs.lemmas.Iterator.{YieldsList-from_range, cases_from_all}
use Rattle.quality.specs.Cell.{slot}
use Rattle.quality.specs.Coded.{cells}
use Rattle.quality.specs.Steps.{passed_over}
use Rattle.daily_line.proofs.Sums.{all_slots}
use Rattle.daily_line.proofs.means.complete.Goals as goal

pub returns : goal.returns
returns c =
    let ts = cells c.args.c in
    let p = λ (k : ℕ). not (passed_over (slot ts k)) in
    all_slots p c.all.result
    (cases_from_all _ _ c.all.result (λ k. p k ≡ true) (λ k. p k ≡ false) c.all.ensures.ran (YieldsList-from_range 0 8 8 refl refl) (λ x q k. search (rules, tests)) (λ x q k. search (rules, tests)))
