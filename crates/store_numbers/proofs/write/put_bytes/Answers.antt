-- `store_numbers::write::put_bytes` meets its contract.
use mathlib.Core.Path.{◌∙◌, ap}
use Prim.Native.Nat.{◌+◌}
use native.Mathlib.Omega.{arith}
use lib.ListN.{length}
use lib.Seq.{sets}
use Rattle.store_layout.proofs.Writes.{lent}
use Rattle.store_numbers.proofs.write.put_bytes.Goals as goal

pub returns : goal.returns
returns c =
    let a = c.args in
    let e = c.copy_from_slice.ensures.after in
    lent a.store.now c.copy_from_slice.new.self a.at (a.at + length a.bytes.now) (omega arith) c.requires (ap length e ∙ omega arith)
    ∙ ap (sets a.store.now a.at) e
