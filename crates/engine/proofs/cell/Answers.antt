-- `engine::cell` meets its contract.
use mathlib.Core.Path.{refl}
use Rattle.rules.specs.Calls.{give_cell}
use Rattle.rules.specs.Rules.{rule}
use Rattle.std.proofs.lemmas.Result.{err_from_is_err_and}
use Rattle.engine_answers.proofs.Stores.{known}
use Rattle.engine.proofs.Located.{found_station, missing_did, found_did}
use Rattle.engine.proofs.cell.Goals as goal

pub give_cell-requires : goal.give_cell-requires
give_cell-requires c = found_station _ _ c.in_ok-index.ensures (known c.type_inv.store)

pub returns-in_err-index : goal.returns-in_err-index
returns-in_err-index c =
    let p = err_from_is_err_and c.from_residual.result c.from_residual.ensures.1 in
    rw (p.1, p.2) ((missing_did _ _ _ (give_cell _ _) refl c.in_err-index.ensures).answer)

pub returns : goal.returns
unfolding rule
returns c = (found_did _ _ _ (give_cell _ _) refl c.in_ok-index.ensures (record { answer = c.give_cell.ensures; left = refl })).answer
