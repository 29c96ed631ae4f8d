-- What a call answers and leaves, on the bytes of a store: the reaction of the store that is read of them. Every public call's contract
-- cites `step`.
-- Assumes nothing.
use Rattle.std.specs.Prelude.{cond, List, ℕ}
use Rattle.store_layout.specs.Model.{Store}
use Rattle.store_layout.specs.Form.{Form, ours}
use Rattle.rules.specs.Calls.{Call, Answer, refused, accepted, Ask, ask}
use Rattle.rules.specs.Rules.{Effect}
use Rattle.rules.specs.Reaction.{Reaction, stays, becomes, placed, reaction}

-- the answer, and the bytes of the store at exit
pub record Outcome : Type 0 where
  pub answer : Answer
  pub store : List ℕ

-- "A refusal gives its number alone and changes no byte."
abbrev pub unchanged : Answer → List ℕ → Outcome
unchanged a s = record { answer = a; store = s }

-- what a reaction leaves of the bytes s
abbrev pub outcome_in : Form → Reaction → List ℕ → Outcome
outcome_in form (stays a) s = unchanged a s
outcome_in form (becomes m) s = record { answer = accepted; store = form.encode m }

-- "unsound store" is 9, before all others
unfoldable pub step_in : Form → Call → List ℕ → Outcome
step_in form c s = cond (form.sound s) (outcome_in form (reaction (ask c) (form.decode s)) s) (unchanged (refused 9) s)

-- ---- on our bytes
abbrev pub step : Call → List ℕ → Outcome
step = step_in ours

-- where the bytes s are those of m: what is asked leaves, and what a request on the station at index i leaves
abbrev pub asked : Ask → Store → List ℕ → Outcome
asked q m s = outcome_in ours (reaction q m) s

abbrev pub after : Effect → ℕ → Store → List ℕ → Outcome
after r i m s = outcome_in ours (placed r i m) s
