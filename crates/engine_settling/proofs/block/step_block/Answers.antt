-- `engine_settling::block::step_block` meets its contract: what is not what a callee ensures is refused without long search.
use borrow.Author.Rules.{rules}
use Rattle.engine_settling.proofs.block.step_block.Goals as goal

pub one_step-requires : goal.one_step-requires
one_step-requires c = rw (c.sheet_of-checked.ensures, c.as_block-block.ensures.value) c.requires.1

pub returns-then-matches : goal.returns-then-matches
returns-then-matches c = search rules

pub returns-else-matches : goal.returns-else-matches
returns-else-matches c = search rules
