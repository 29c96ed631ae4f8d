-- `store_opening::open::open` meets its contract: a fresh store that is refused is no opening.
use borrow.Author.Rules.{rules}
use Rattle.store_opening.proofs.open.open.Goals as goal

pub returns : goal.returns
returns c = search rules
