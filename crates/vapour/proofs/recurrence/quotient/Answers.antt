-- `vapour::recurrence::quotient` meets its contract.
use mathlib.Core.Path.{◌≡◌}
use Prim.Native.Nat.{◌*◌, ◌≤◌}
use native.Mathlib.Nat.{div-le_of_le-mul}
use native.Mathlib.Omega.{arith}
use lib.IntN.{pos, nat_abs, sub_ℕ, ◌+ℤ◌}
use Rattle.std.proofs.lemmas.Int.{ints}
use Rattle.vapour.proofs.recurrence.quotient.Goals as goal

pub returns : goal.returns
returns c =
    let i = c.args.index in
    let a : c.unsigned_abs.result ≡ nat_abs (sub_ℕ i 500) = grind (arith, ints, c.unsigned_abs.ensures) in
    let b : c.unsigned_abs-2.result ≡ nat_abs (sub_ℕ i 500 +ℤ pos 2435) = grind (arith, ints, c.unsigned_abs-2.ensures) in
    let m : c.unsigned_abs.result ≤ 500 = grind (arith, ints, c.unsigned_abs.ensures) in
    let n : 1935 ≤ c.unsigned_abs-2.result = grind (arith, ints, c.unsigned_abs-2.ensures) in
    (rw (a, b), div-le_of_le-mul (100 * c.unsigned_abs-2.result) (omega arith))
