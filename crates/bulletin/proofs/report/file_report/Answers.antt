-- `bulletin::report::file_report` meets its contract: the text is the rebuilt report, or its first 513 bytes.
use borrow.Author.Rules.{rules}
use mathlib.Core.Path.{◌∙◌}
use Rattle.engine_answers.proofs.Stores.{known}
use Rattle.bulletin.proofs.Filing.{held, filed}
use Rattle.bulletin.proofs.report.file_report.Goals as goal

pub file_in-requires : goal.file_in-requires
file_in-requires c = record { sound = c.requires.0; bytes = known (λ k. search rules) }

pub returns : goal.returns
returns c =
    filed _ c.requires.1 _ _ _ (record { sound = c.requires.0; bytes = known (λ k. search rules) }) _
    (c.as_slice.ensures.value ∙ held c.args.time _ c.begin-text.ensures c.squeeze.ensures c.put.ensures) _ _ c.file_in.ensures
