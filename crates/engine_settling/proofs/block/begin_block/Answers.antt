-- `engine_settling::block::begin_block` meets its contract: what each callee ensures, put together.
use Rattle.engine_settling.proofs.block.begin_block.Goals as goal

pub returns : goal.returns
returns c = simp (c.put_sheet.ensures, c.sheet_of-copied.ensures, c.as_block-block.ensures.value) at c.put_copies.ensures
