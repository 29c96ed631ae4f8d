-- `engine_filing::placing::put_report` meets its contract: the slot is put with what each callee made.
use Rattle.engine_filing.proofs.placing.put_report.Goals as goal

pub returns : goal.returns
returns c =
    simp (c.slot_head-h.ensures, c.raw_cells.ensures, c.head_of-old.ensures, c.as_block-block.ensures.value) at c.put_slot.ensures
