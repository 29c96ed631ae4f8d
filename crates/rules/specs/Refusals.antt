-- "A refusal gives its number alone and changes no byte."
-- Assumes nothing.
use Rattle.std.specs.Prelude.{◌≡◌, List, ℕ}
use Rattle.rules.specs.Calls.{Call, refused}
use Rattle.rules.specs.Runs.{Engine}

-- said of an engine: whatever call it refuses, on whatever bytes, it leaves them
pub record RefusalsKeep (engine : Engine) : Type 0 where
  pub bytes : (c : Call) (s : List ℕ) (n : ℕ) → (engine c s).answer ≡ refused n → (engine c s).store ≡ s
