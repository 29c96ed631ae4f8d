-- `esfenruk::esfenruk_day` meets its contract.
use mathlib.Core.Path.{sym, subst}
use Rattle.rules.specs.Calls.{day}
use Rattle.rules.specs.Step.{step}
use Rattle.capi.specs.Arrays.{Small}
use Rattle.rules.proofs.Answers.{is_day}
use Rattle.esfenruk.proofs.Within.{Modest, modest_step}
use Rattle.esfenruk.proofs.Days.{line_same, returned_refused, returned_line}
use Rattle.esfenruk.proofs.esfenruk_day.Goals as goal

pub line_numbers-requires : goal.line_numbers-requires
line_numbers-requires c =
    let o = c.args in
    let i = is_day _ (step (day o.station) o.store.now).answer c.in-Ok.ensures in
    subst Small (sym (line_same _ i.line i.holds)) (subst Modest i.answer (modest_step o.station o.store.now))

pub returns-in-Err : goal.returns-in-Err
returns-in-Err c =
    rw c.from.ensures
    (returned_refused (step (day c.args.station) c.args.store.now).answer c.args.means.now c.args.numbers.now _ c.in-Err.ensures)

pub returns-in-Ok : goal.returns-in-Ok
returns-in-Ok c =
    returned_line (step (day c.args.station) c.args.store.now).answer c.args.means.now c.args.numbers.now _ c.in-Ok.ensures
    _ _ c.line_floats.ensures c.line_numbers.ensures
