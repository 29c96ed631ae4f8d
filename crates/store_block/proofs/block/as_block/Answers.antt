-- `store_block::block::as_block` meets its contract: only a part of another length than a block's is refused.
use Rattle.store_block.proofs.block.as_block.Goals as goal

pub unreachable-requires : goal.unreachable-requires
unreachable-requires c = c.in_default.ensures.cases c.requires
