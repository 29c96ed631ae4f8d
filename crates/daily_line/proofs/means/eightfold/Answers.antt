-- `daily_line::means::eightfold` meets its contract.
use mathlib.Core.Path.{◌≡◌, refl}
use Prim.Native.Nat.{◌<◌}
use native.Mathlib.Omega.{arith}
use lib.IntN.{pos}
use lib.ListN.{get_or, take}
use mir.Syntax.{w16, w32}
use mir.Val.{SFits, to_z}
use Rattle.std.proofs.Common.{rules}
use Rattle.std.proofs.lemmas.Int.{ints, to_z-of_z}
use Rattle.std.proofs.lemmas.List.{length-take, get_or-take}
use Rattle.daily.specs.Means.{sum}
use Rattle.daily_line.proofs.Sums.{sum_turn}
use Rattle.daily_line.proofs.means.eightfold.Goals as goal

pub loop-value-init : goal.loop-value-init
unfolding sum
loop-value-init c = record { sum = refl; least = omega (arith, ints); most = omega (arith, ints) }

pub overflow_add-sum : goal.overflow_add-sum
overflow_add-sum c =
    let b : c.loop-value.value-index < 8 = omega (arith, length-take 8 c.args.c.values) in
    omega (arith, ints)

pub loop-value-preserved : goal.loop-value-preserved
loop-value-preserved c =
    let k = c.loop-value.value-index in
    let b : k < 8 = omega (arith, length-take 8 c.args.c.values) in
    let v : c.from-sum.result ≡ get_or c.args.c.values k (pos 0) =
    let f : SFits w16 (get_or (take 8 c.args.c.values) k (pos 0)) = search rules in
    rw (c.from-sum.ensures, to_z-of_z w16 _ f, get_or-take 8 c.args.c.values k (pos 0) b) in
    record {
      sum = omega (arith, ints, v, sum_turn c.args.c k (to_z w32 c.loop-value.sum-bits) (omega arith) c.loop-value.invariant.sum);
      least = omega (arith, ints);
      most = omega (arith, ints);
    }

pub returns : goal.returns
returns c =
    let e : c.loop-value.value-index ≡ 8 = omega (arith, length-take 8 c.args.c.values) in
    rw e at c.loop-value.invariant.sum
