-- `rules::isolated` meets its contract: it is demand 3.
use Rattle.rules.proofs.Demand3.{demand3}
use Rattle.rules.proofs.isolated.Goals as goal

pub returns : goal.returns
returns c = demand3
