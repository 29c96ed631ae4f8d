-- `rules::at_once` meets its contract: settle beside begin and four steps.
use Rattle.rules.proofs.AtOnce.{at_once}
use Rattle.rules.proofs.at_once.Goals as goal

pub returns : goal.returns
returns c = at_once
