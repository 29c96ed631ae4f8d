-- `store_opening::fresh::put_block` meets its contract. Heads and then zeros are the bytes of an empty block.
use mathlib.Core.Path.{refl, ◌∙◌, ap}
use Prim.Native.Nat.{◌+◌}
use lib.ListN.{replicate}
use lib.Seq.{sets}
use Rattle.store_layout.specs.Model.{unfiled}
use Rattle.store_layout.specs.Layout.{raw_from, sheet_length, pieces, encode_head}
use Rattle.store_opening.proofs.Laid.{empty_bytes}
use Rattle.store_numbers.proofs.Laying.{run}
use Rattle.store_opening.proofs.fresh.put_block.Goals as goal

pub returns : goal.returns
unfolding pieces encode_head
returns c =
    let a = c.args in
    run a.store.now (pieces 9 (λ k. encode_head unfiled)) (replicate (sheet_length + sheet_length) 0) a.at (a.at + raw_from) c.put_heads.ensures refl c.put_zeros.ensures ∙ ap (sets a.store.now a.at) empty_bytes
