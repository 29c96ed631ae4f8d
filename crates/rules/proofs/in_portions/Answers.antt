-- `rules::in_portions` meets its contract: settling in portions.
use Rattle.rules.proofs.InPortions.{in_portions}
use Rattle.rules.proofs.Requests.{all_lawful}
use Rattle.rules.proofs.Reports.{report_bounds}
use Rattle.rules.proofs.in_portions.Goals as goal

pub returns : goal.returns
returns c = in_portions (all_lawful report_bounds)
