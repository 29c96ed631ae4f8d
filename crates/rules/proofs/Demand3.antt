-- Demand 3, for the engine whose calls the contracts describe.
-- Assumes nothing.
use Rattle.rules.specs.Step.{step}
use Rattle.rules.specs.Isolation.{Isolated}
use Rattle.rules.proofs.Requests.{all_lawful}
use Rattle.rules.proofs.Reports.{report_bounds}
use Rattle.rules.proofs.Isolation.{isolated}

pub demand3 : Isolated step
demand3 = isolated (all_lawful report_bounds)
