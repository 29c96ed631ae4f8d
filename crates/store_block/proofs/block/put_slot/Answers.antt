-- `store_block::block::put_slot` meets its contract. The loop's invariant: what is read of the block has the elements' cells put so far.
use mathlib.Core.Path.{refl, ◌∙◌, ap}
use mathlib.Core.List.{[]}
use native.Mathlib.Nat.{le_refl}
use borrow.Author.Rules.{rules}
use lib.ListN.{set}
use Rattle.laws.specs.Table.{table}
use Rattle.quality.specs.Cell.{slot}
use Rattle.quality.specs.Elements.{column}
use Rattle.store_layout.specs.Model.{Block}
use Rattle.store_layout.specs.Updates.{with_slot}
use Rattle.store_numbers.specs.declared.area.Area.TheVariants.{Raw}
use Rattle.store_numbers.specs.Areas.{with_sheet, with_cell}
use Rattle.store_numbers.proofs.BlockWrites.{head_put}
use Rattle.store_block.proofs.Filling.{begun, more, whole}
use Rattle.store_numbers.proofs.Sheets.{nine_columns}
use Rattle.store_block.proofs.block.put_slot.Goals as goal

pub loop-e-init : goal.loop-e-init
loop-e-init c = begun _ _ [] _ _ (search rules) (nine_columns Raw _) refl

pub loop-e-preserved : goal.loop-e-preserved
loop-e-preserved c =
    let l = c.loop-e in
    let h = l.invariant in
    let p = c.put_cell in
    more h _ _ (search rules) (search rules)
    (rw (h.rest _ (le_refl _)))
    (p.ensures ∙ ap (with_cell Raw _ _ _) h.reads)

pub returns : goal.returns
unfolding with_slot
returns c =
    let a = c.args in
    whole c.loop-e.invariant (search rules)
    ∙ ap (λ (b : Block). with_sheet Raw (table 9 (λ x. set (column b.raw x) a.k (slot a.raw x))) b)
    (head_put a.block.now _ (search rules) a.k (search rules) a.h c.put_head.ensures)
