-- `engine::open` meets its contract.
use Rattle.engine.proofs.Opening.{opened}
use Rattle.engine.proofs.open.Goals as goal

pub returns : goal.returns
returns c = opened c.«open».ensures
