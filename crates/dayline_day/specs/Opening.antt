-- The store that the first line opens: "A first line that cannot open a store prints `open 10` alone." Assumes nothing.
use Rattle.std.specs.Prelude.{◌≡◌, List, ℕ, Result, Some}
use Rattle.dayline_text.specs.FirstLine.{First, cannot_open, opens}
use Rattle.dayline_text.specs.Line.{told}
use Rattle.dayline_text.specs.declared.first_line.Opening.{Opening}
use Rattle.engine_answers.specs.Replies.{reply, open_outcome}
use Rattle.refusals.specs.declared.Refusal.{Refusal}
use Rattle.rules.specs.Calls.{refused}
use Rattle.rules.specs.Step.{Outcome, unchanged}

abbrev pub opening : First → List ℕ → Outcome
opening cannot_open s = unchanged (refused 10) s
opening (opens year month day stations rows) s = open_outcome s year month day stations rows

-- a store of the bytes s was opened by what the first line said, or not, and has the bytes t
pub record OpenedBy (o : Opening) (s : List ℕ) (r : Result (Unit {0}) Refusal) (t : List ℕ) : Type 0 where
  pub answer : reply r ≡ (opening (told (Some o)) s).answer
  pub left : t ≡ (opening (told (Some o)) s).store
