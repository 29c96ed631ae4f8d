-- `vapour::pressures` meets its contract.
use Rattle.std.proofs.Common.{rules}
use Rattle.std.specs.Prelude.{pos, None}
use Rattle.laws.proofs.Calls.{mapped}
use Rattle.vapour.specs.Vapour.{pressure}
use Rattle.vapour.proofs.pressures.Goals as goal

pub returns : goal.returns
returns c = mapped _ _ pressure (λ x r q k. search rules) c.args.dew_points c.map.result (pos 0) None 9 (search rules) c.map.ensures.items
