-- `quality::value::raised_sum` meets its contract: a sum that is not raised is refused without long search.
use borrow.Author.Rules.{rules}
use Rattle.quality.proofs.value.raised_sum.Goals as goal

pub returns : goal.returns
returns c = search rules
