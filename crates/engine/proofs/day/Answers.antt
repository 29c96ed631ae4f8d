-- `engine::day` meets its contract.
use mathlib.Core.Path.{refl, subst}
use Rattle.rules.specs.Calls.{day, give_day}
use Rattle.rules.specs.Rules.{rule}
use Rattle.std.specs.Prelude.{Err}
use Rattle.engine_answers.specs.Replies.{SaysDay}
use Rattle.std.proofs.lemmas.Result.{err_from_is_err_and}
use Rattle.engine_answers.proofs.Stores.{known}
use Rattle.engine.proofs.Located.{found_station, missing_did, found_did}
use Rattle.engine.proofs.day.Goals as goal

pub give_day-requires : goal.give_day-requires
give_day-requires c = found_station _ _ c.in_ok-index.ensures (known c.type_inv.store)

pub returns-in_err-index : goal.returns-in_err-index
returns-in_err-index c =
    let p = err_from_is_err_and c.from_residual.result c.from_residual.ensures.1 in
    rw (p.1, p.2) (subst (SaysDay (Err _)) (missing_did _ _ (day c.args.station) give_day refl c.in_err-index.ensures).answer refl)

pub returns : goal.returns
unfolding rule
returns c =
    subst (SaysDay c.give_day.result) (found_did _ _ (day c.args.station) give_day refl c.in_ok-index.ensures (record { answer = refl; left = refl })).answer
    c.give_day.ensures
