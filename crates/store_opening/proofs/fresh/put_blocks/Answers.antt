-- `store_opening::fresh::put_blocks` meets its contract. The loop's invariant: the blocks laid so far.
use mathlib.Core.Path.{◌∙◌}
use native.Mathlib.Omega.{arith}
use borrow.Author.Rules.{rules}
use Rattle.store_layout.specs.Model.{empty_block}
use Rattle.store_layout.specs.Layout.{block_length}
use Rattle.store_layout.proofs.Blocks.{length_block}
use Rattle.store_numbers.proofs.Laying.{none, more, whole}
use Rattle.store_opening.proofs.fresh.put_blocks.Goals as goal

pub loop-i-init : goal.loop-i-init
loop-i-init c = none _ _ _ _

pub loop-i-preserved : goal.loop-i-preserved
loop-i-preserved c = more c.loop-i.invariant block_length (λ j. length_block empty_block) (search rules) _
    (c.block_at.ensures ∙ omega arith) c.put_block.ensures

pub returns : goal.returns
returns c = whole c.loop-i.invariant (search rules)
