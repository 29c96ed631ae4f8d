-- `store_numbers::write::put_zeros` meets its contract.
use mathlib.Core.Path.{◌≡◌, ◌∙◌, ap}
use Prim.Native.Nat.{◌+◌, ◌-◌}
use native.Mathlib.Omega.{arith}
use lib.ListN.{replicate}
use lib.Seq.{sets}
use Rattle.store_layout.proofs.Parts.{length_part}
use Rattle.store_layout.proofs.Writes.{lent}
use Rattle.store_numbers.proofs.write.put_zeros.Goals as goal

pub returns : goal.returns
returns c =
    let a = c.args in
    let long = length_part (a.at + a.n - a.at) a.at a.store.now (omega (arith, c.requires)) in
    let e : a.at + a.n - a.at ≡ a.n = omega arith in
    lent a.store.now c.fill.new.self a.at (a.at + a.n) (omega arith) c.requires (c.fill.ensures.len ∙ long)
    ∙ ap (sets a.store.now a.at) (c.fill.ensures.after (λ y e. e) ∙ ap (λ n. replicate n 0) (long ∙ e))
