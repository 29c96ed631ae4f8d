-- `daily::extremes::warmest` meets its contract: it is one of the four cases of `extreme`.
use Rattle.daily.specs.Extremes.{warmest}
use Rattle.daily.proofs.extremes.warmest.Goals as goal

pub returns : goal.returns
unfolding warmest
returns c = c.extreme.ensures
