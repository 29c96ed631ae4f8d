-- `engine::file` meets its contract.
use borrow.Author.Rules.{rules}
use native.Mathlib.Omega.{arith}
use mathlib.Core.Path.{refl}
use borrow.Author.Tests.{le-leb}
use Rattle.laws.proofs.Bools.{via}
use Rattle.engine_answers.proofs.Outcomes.{did_as, step_unsound}
use Rattle.engine_answers.proofs.Stores.{known}
use Rattle.engine_filing.proofs.Filed.{file_ranked}
use Rattle.engine.proofs.file.Goals as goal

pub returns-then-not-is_sound : goal.returns-then-not-is_sound
returns-then-not-is_sound c = did_as (step_unsound _ _ (via c.is_sound.ensures c.if-not-is_sound.true)) (record { answer = refl; left = refl })

pub file_in-requires : goal.file_in-requires
file_in-requires c = record { sound = via c.is_sound.ensures c.if-not-is_sound.false; bytes = known (λ k. search rules) }

pub returns : goal.returns
returns c =
    did_as (file_ranked _ _ _ (via c.is_sound.ensures c.if-not-is_sound.false) (le-leb _ 24 (omega arith))) c.file_in.ensures
