-- `rules::same_calls` meets its contract: what a call answers and leaves does not depend on the byte form.
use Rattle.rules.proofs.Forms.{same_calls}
use Rattle.rules.proofs.Requests.{all_lawful}
use Rattle.rules.proofs.Reports.{report_bounds}
use Rattle.rules.proofs.same_calls.Goals as goal

pub returns : goal.returns
returns c = same_calls (all_lawful report_bounds)
