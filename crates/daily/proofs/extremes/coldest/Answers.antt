-- `daily::extremes::coldest` meets its contract: it is one of the four cases of `extreme`.
use Rattle.daily.specs.Extremes.{coldest}
use Rattle.daily.proofs.extremes.coldest.Goals as goal

pub returns : goal.returns
unfolding coldest
returns c = c.extreme.ensures
