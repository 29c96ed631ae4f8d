-- What filing one report of a bulletin answers and leaves.
-- Assumes nothing.
use Rattle.std.specs.Prelude.{◌≡◌, true, List, ℕ, Result}
use Rattle.refusals.specs.declared.Refusal.{Refusal}
use Rattle.store_layout.specs.Sound.{sound}
use Rattle.rules.specs.Calls.{file}
use Rattle.rules.specs.Step.{step}
use Rattle.engine_answers.specs.Replies.{reply}
use Rattle.bulletin.specs.Rebuilt.{rebuilt}

-- a report with these groups was filed at a rank in the store s: the answer, and the bytes t that it left
pub record Filed (rank : ℕ) (head : List ℕ) (gs : List (List ℕ)) (s : List ℕ) (a : Result (Unit {0}) Refusal) (t : List ℕ) : Type 0 where
  pub answer : reply a ≡ (step (file (rebuilt head gs) rank) s).answer
  pub left : t ≡ (step (file (rebuilt head gs) rank) s).store
  pub sound : sound t ≡ true
