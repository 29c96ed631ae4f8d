-- `engine_filing::file_in` meets its contract.
use mathlib.Core.Path.{sym, ◌∙◌, ap}
use Rattle.std.proofs.lemmas.Result.{err_from_is_err_and}
use Rattle.synop.specs.Report.{passed}
use Rattle.engine_filing.proofs.Filed.{told, nil_missing, nil_found, whole_missing, whole_found, found_station, found_slot, read_as, unread}
use Rattle.engine_filing.proofs.file_in.Goals as goal

pub returns-in_err-report : goal.returns-in_err-report
returns-in_err-report c =
    let p = err_from_is_err_and c.from_residual.result c.from_residual.ensures.1 in
    rw (p.1, p.2) (unread _ _ _ _ c.in_err-report.ensures)

pub returns-in_err-place_in-in-Nil : goal.returns-in_err-place_in-in-Nil
returns-in_err-place_in-in-Nil c =
    let p = err_from_is_err_and c.from_residual-in_err-place_in-in-Nil.result c.from_residual-in_err-place_in-in-Nil.ensures.1 in
    rw (p.1, p.2) (read_as _ _ _ (ap passed (sym c.in-Nil.is) ∙ c.in_ok-report.ensures) (nil_missing _ _ _ (told _ _ c.in_err-place_in-in-Nil.ensures)))

pub returns-in_ok-place_in-in-Nil : goal.returns-in_ok-place_in-in-Nil
returns-in_ok-place_in-in-Nil c =
    read_as _ _ _ (ap passed (sym c.in-Nil.is) ∙ c.in_ok-report.ensures) (nil_found _ _ _ (told _ _ c.in_ok-place_in-in-Nil.ensures))

pub returns-in_err-place-in-Whole : goal.returns-in_err-place-in-Whole
returns-in_err-place-in-Whole c =
    let p = err_from_is_err_and c.from_residual-in_err-place-in-Whole.result c.from_residual-in_err-place-in-Whole.ensures.1 in
    rw (p.1, p.2) (read_as _ _ _ (ap passed (sym c.in-Whole.is) ∙ c.in_ok-report.ensures) (whole_missing _ _ _ _ _ (told _ _ c.in_err-place-in-Whole.ensures)))

pub file_at-requires-clause-station : goal.file_at-requires-clause-station
file_at-requires-clause-station c = found_station _ _ (told _ _ c.in_ok-place-in-Whole.ensures) c.requires

pub file_at-requires-clause-slot : goal.file_at-requires-clause-slot
file_at-requires-clause-slot c = found_slot _ _ (told _ _ c.in_ok-place-in-Whole.ensures)

pub returns-in_ok-place-in-Whole : goal.returns-in_ok-place-in-Whole
returns-in_ok-place-in-Whole c =
    read_as _ _ _ (ap passed (sym c.in-Whole.is) ∙ c.in_ok-report.ensures) (whole_found _ _ _ _ _ (told _ _ c.in_ok-place-in-Whole.ensures) c.file_at.ensures)
