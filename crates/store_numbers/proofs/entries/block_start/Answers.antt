-- `store_numbers::entries::block_start` meets its contract.
use borrow.Author.Rules.{rules}
use Rattle.store_numbers.proofs.entries.block_start.Goals as goal

pub returns : goal.returns
returns c = (rw c.word_at.ensures at c.block_at.ensures, search rules)
