-- `store_soundness::blocks::is_block` meets its contract.
use Rattle.laws.proofs.Bools.{and_eq}
use Rattle.store_soundness.proofs.BlockSounds.{block_in_turn}
use Rattle.store_soundness.proofs.blocks.is_block.Goals as goal

pub returns : goal.returns
returns c = rw block_in_turn (and_eq (and_eq c.are_heads.ensures c.are_cells.ensures) c.are_cells-2.ensures)
