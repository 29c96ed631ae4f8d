-- `bulletin::as_calls` meets its contract: a bulletin leaves what the filings of its reports leave.
use Rattle.bulletin.proofs.AsCalls.{as_calls}
use Rattle.bulletin.proofs.as_calls.Goals as goal

pub returns : goal.returns
returns c = as_calls
