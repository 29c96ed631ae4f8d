-- The calls in two byte forms of a store: what a call answers and leaves does not depend on the form.
-- Assumes nothing.
use Rattle.std.specs.Prelude.{◌≡◌, false, List, ℕ}
use Rattle.store_layout.specs.Form.{Form, SoundIn, Corresponding}
use Rattle.rules.specs.Calls.{Call, refused}
use Rattle.rules.specs.Step.{unchanged, step_in}
use Rattle.rules.specs.Runs.{log, left}

-- the buffers of the form g that correspond to those of f: one to each sound one, and none to another; each is met
pub record Counterparts (f g : Form) : Type 0 where
  pub some : (s : List ℕ) → SoundIn f s → (t : List ℕ) × Corresponding f g s t
  pub one : (s t u : List ℕ) → Corresponding f g s t → Corresponding f g s u → t ≡ u
  pub none : (s t : List ℕ) → f.sound s ≡ false → Corresponding f g s t → ⊥
  pub met : (t : List ℕ) → SoundIn g t → (s : List ℕ) × Corresponding f g s t
  pub met_once : (s r t : List ℕ) → Corresponding f g s t → Corresponding f g r t → s ≡ r
  pub met_none : (s t : List ℕ) → g.sound t ≡ false → Corresponding f g s t → ⊥

-- on corresponding buffers every call gives the same answer and leaves corresponding ones, refusals included; so every list of calls. On a
-- buffer that is not sound every call is refused 9 and changes no byte
pub record SameCalls (f g : Form) : Type 0 where
  pub counterparts : Counterparts f g
  pub answer : (c : Call) (s t : List ℕ) → Corresponding f g s t → (step_in f c s).answer ≡ (step_in g c t).answer
  pub store : (c : Call) (s t : List ℕ) → Corresponding f g s t → Corresponding f g (step_in f c s).store (step_in g c t).store
  pub answers : (cs : List Call) (s t : List ℕ) → Corresponding f g s t → log (step_in f) cs s ≡ log (step_in g) cs t
  pub stores : (cs : List Call) (s t : List ℕ) → Corresponding f g s t → Corresponding f g (left (step_in f) cs s) (left (step_in g) cs t)
  pub unsound : (c : Call) (s : List ℕ) → f.sound s ≡ false → step_in f c s ≡ unchanged (refused 9) s
  pub unsound_second : (c : Call) (t : List ℕ) → g.sound t ≡ false → step_in g c t ≡ unchanged (refused 9) t
