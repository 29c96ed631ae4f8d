-- `engine::begin` meets its contract.
use borrow.Author.Rules.{rules}
use mathlib.Core.Path.{refl}
use Rattle.rules.specs.Calls.{beginning}
use Rattle.rules.specs.Rules.{rule}
use Rattle.std.proofs.lemmas.Result.{err_from_is_err_and}
use Rattle.engine_answers.proofs.Stores.{known}
use Rattle.engine.proofs.Located.{found_station, missing_did, found_did}
use Rattle.engine.proofs.begin.Goals as goal

pub begin_at-requires : goal.begin_at-requires
begin_at-requires c = found_station _ _ c.in_ok-index.ensures (known (λ k. search rules))

pub returns-in_err-index : goal.returns-in_err-index
returns-in_err-index c =
    let p = err_from_is_err_and c.from_residual.result c.from_residual.ensures.1 in
    rw (p.1, p.2) (missing_did _ _ _ beginning refl c.in_err-index.ensures)

pub returns : goal.returns
unfolding rule
returns c = found_did _ _ _ beginning refl c.in_ok-index.ensures (record { answer = refl; left = c.begin_at.ensures })
