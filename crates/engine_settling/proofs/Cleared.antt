-- What a step leaves of the copies of dd, by which step it is.
-- Assumes nothing.
use mathlib.Core.Path.{◌≡◌, sym, ap}
use Rattle.quality.specs.declared.step.Step.{Step}
use Rattle.store_layout.specs.Model.{Block}
use Rattle.rules.specs.Rules.{cleared}

pub cleared_as : {step told : Step} (b : Block) → step ≡ told → cleared told b ≡ cleared step b
cleared_as b e = ap (λ (s : Step). cleared s b) (sym e)
