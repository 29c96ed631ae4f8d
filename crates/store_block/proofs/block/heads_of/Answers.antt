-- `store_block::block::heads_of` meets its contract.
use borrow.Author.Rules.{rules}
use Rattle.laws.proofs.Calls.{tabled}
use Rattle.store_layout.specs.Model.{unfiled}
use Rattle.store_layout.specs.Layout.{head_at, decode_head, decode_block}
use Rattle.store_block.proofs.block.heads_of.Goals as goal

pub returns : goal.returns
unfolding decode_block
returns c = tabled _ _ (λ k. decode_head c.args.block.now (head_at k)) 9 (λ k l r q s. search rules) _ unfiled c.from_fn.ensures.items
