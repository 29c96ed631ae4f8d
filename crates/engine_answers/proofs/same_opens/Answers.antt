-- `engine_answers::same_opens` meets its contract: what an open answers does not depend on the byte form, and what it leaves corresponds.
use Rattle.engine_answers.proofs.Forms.{same_opens}
use Rattle.engine_answers.proofs.same_opens.Goals as goal

pub returns : goal.returns
returns c = same_opens
