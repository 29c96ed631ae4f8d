-- `store_block::block::put_copies` meets its contract. The loop's invariant: what is read of the block has the copies put so far.
use mathlib.Core.Path.{◌≡◌, refl, sym, ◌∙◌, ap}
use mathlib.Core.List.{map}
use native.Mathlib.Nat.{le_refl}
use borrow.Author.Rules.{rules}
use lib.ListN.{length, length-set, length-map}
use Prim.Native.Nat.{◌<◌}
use Rattle.std.proofs.lemmas.List.{get_or_default}
use Rattle.laws.proofs.Maps.{map_at}
use Rattle.store_layout.specs.Model.{Block, unfiled, head_of}
use Rattle.store_layout.specs.Layout.{head_at, decode_head, decode_block}
use Rattle.store_layout.specs.Updates.{with_copy, with_copies}
use Rattle.store_layout.proofs.Blocks.{head_of_block, shaped_read}
use Rattle.store_block.specs.Coded.{copy_for}
use Rattle.store_numbers.specs.Areas.{with_head}
use Rattle.store_numbers.proofs.BlockWrites.{copy_put}
use Rattle.store_block.proofs.Filling.{begun, more, whole_list}
use Rattle.store_block.proofs.block.put_copies.Goals as goal

pub loop-k-init : goal.loop-k-init
unfolding with_copies
loop-k-init c = begun _ _ unfiled _ _ (search rules) (shaped_read c.args.block.now).nine refl

-- the head that was read before is still the one that is there
pub loop-k-preserved : goal.loop-k-preserved
loop-k-preserved c =
    let b = decode_block c.args.block.now in
    let l = c.loop-k in
    let h = l.invariant in
    let f = copy_for c.args.copies in
    let below : l.k < length b.heads = rw (shaped_read c.args.block.now).nine (search rules) in
    let there : decode_head l.block (head_at l.k) ≡ head_of b l.k =
    sym (head_of_block l.block l.k (search rules)) ∙ ap (λ (d : Block). head_of d l.k) h.reads ∙ h.rest l.k (le_refl _) in
    let copied : c.copy_for.result ≡ f (head_of b l.k) =
    c.copy_for.ensures ∙ ap f (rw c.heads_of-heads.ensures (get_or_default b.heads l.k _ unfiled below)) in
    more h _ (with_copy f (decode_head l.block (head_at l.k))) (search rules) (length-set l.block _ _)
    (ap (with_copy f) there ∙ sym (map_at (with_copy f) b.heads l.k unfiled unfiled below))
    (copy_put l.block h.long l.k (search rules) f c.copy_for.result (copied ∙ ap f (sym there)) ∙ ap (with_head l.k _) h.reads)

pub returns : goal.returns
unfolding with_copies
returns c =
    let a = c.args in
    let old = (decode_block a.block.now).heads in
    whole_list (map (with_copy (copy_for a.copies)) old) c.loop-k.invariant (search rules) (length-map old (with_copy (copy_for a.copies)) ∙ (shaped_read a.block.now).nine)
