-- An open in two byte forms of a store: what it answers does not depend on the form, and what it leaves corresponds.
-- Assumes nothing.
use Rattle.std.specs.Prelude.{◌≡◌, List, ℕ, length}
use Rattle.store_layout.specs.Form.{Form, Corresponding}
use Rattle.rules.specs.Calls.{refused, accepted}
use Rattle.rules.specs.Step.{Outcome}
use Rattle.engine_answers.specs.Replies.{open_in}

-- two buffers, each of the length that its form has for n stations, or neither. Open meets any buffer, also one that is not sound and has no
-- counterpart
pub record AsLong (f g : Form) (n : ℕ) (s t : List ℕ) : Type 0 where
  pub there : length s ≡ f.size n → length t ≡ g.size n
  pub back : length t ≡ g.size n → length s ≡ f.size n

-- the same answer; accepted, both leave corresponding buffers, and refused 10, each the bytes that it met
pub record SameOpened (f g : Form) (s t : List ℕ) (o p : Outcome) : Type 0 where
  pub answer : o.answer ≡ p.answer
  pub accepted : o.answer ≡ accepted → Corresponding f g o.store p.store
  pub refused : o.answer ≡ refused 10 → (o.store ≡ s) × (p.store ≡ t)

pub record SameOpens (f g : Form) : Type 0 where
  pub each : (year month day : ℕ) (numbers rows s t : List ℕ) → AsLong f g (length numbers) s t
      → SameOpened f g s t (open_in f s year month day numbers rows) (open_in g t year month day numbers rows)
