-- Our engine's refusals change no byte.
-- Assumes nothing.
use mathlib.Core.Path.{◌≡◌, refl}
use mathlib.Core.List.{List}
use Prim.Native.Nat.{ℕ}
use native.Mathlib.Omega.{arith}
use Rattle.laws.proofs.Bools.{cond_keeps}
use Rattle.store_layout.specs.Form.{ours}
use Rattle.rules.specs.Calls.{refused, ask}
use Rattle.rules.specs.Reaction.{Reaction, stays, becomes, reaction}
use Rattle.rules.specs.Step.{Outcome, outcome_in, step_in, step}
use Rattle.rules.specs.Refusals.{RefusalsKeep}

module _ (n : ℕ) (s : List ℕ) where
  -- an outcome that keeps the bytes s if it is a refusal
  abbrev Keeps : Outcome → Type 0
  Keeps o = o.answer ≡ refused n → o.store ≡ s

  keeps_reaction : (r : Reaction) → Keeps (outcome_in ours r s)
  keeps_reaction (stays a) e = refl
  keeps_reaction (becomes m) e = let z : ◌≡◌ {A = ℕ} 0 1 = cc in absurd (omega arith)

pub refusals : RefusalsKeep step
unfolding step_in
refusals =
    record { bytes = λ c s n. cond_keeps (Keeps n s) (ours.sound s) (keeps_reaction n s (reaction (ask c) (ours.decode s))) (λ e. refl) }
