-- `engine_settling::settle_block` meets its contract: what each callee ensures, put together.
use Rattle.engine_settling.proofs.settle_block.Goals as goal

pub returns : goal.returns
returns c =
    simp (c.put_sheet.ensures, c.settle-checked.ensures, c.directions-dd.ensures, c.sheet_of-raw.ensures, c.as_block-block.ensures.value) at c.put_copies.ensures
