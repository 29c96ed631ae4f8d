-- `synop::refusal` meets its contract: a report that `read` answers passes each check.
use Rattle.synop.proofs.Refusals.{of_passed}
use Rattle.synop.proofs.refusal.Goals as goal

pub returns : goal.returns
returns c = of_passed c.args.text.now c.in_ok-read.field-0 (c.in_ok-read.ensures {u = tt})
