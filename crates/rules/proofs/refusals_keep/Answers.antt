-- `rules::refusals_keep` meets its contract.
use Rattle.rules.proofs.Refusals as Refusals
use Rattle.rules.proofs.refusals_keep.Goals as goal

pub returns : goal.returns
returns c = Refusals.refusals
