-- `vapour::recurrence::sum` meets its contract. The loop's invariant: the last term is term k, and the sum that of terms 0 to k.
use mathlib.Core.Path.{◌≡◌, refl}
use Prim.Native.Nat.{◌+◌, ◌*◌, ◌≤◌}
use native.Mathlib.Omega.{arith}
use borrow.Author.Rules.{rules}
use Rattle.vapour.specs.Vapour.{S, term, sum_to}
use Rattle.vapour.proofs.Terms.{term_next, sum_to_next, term_most, product_most, sum_to_least, sum_to_most}
use Rattle.vapour.proofs.recurrence.sum.Goals as goal

pub loop-k-init : goal.loop-k-init
unfolding term sum_to
loop-k-init c = (search rules, refl, refl)

pub overflow_mul-term : goal.overflow_mul-term
overflow_mul-term c =
    let p : c.loop-k.term * c.args.q ≤ 28 * S * (5 * S) =
    product_most c.args.q c.requires c.loop-k.k c.loop-k.term c.loop-k.invariant.1 in
    omega arith

pub overflow_add-z : goal.overflow_add-z
overflow_add-z c =
    rw (term_next c.args.q c.loop-k.k c.loop-k.term c.loop-k.invariant.1)
    (omega (
      arith,
      term_most c.args.q c.requires (c.loop-k.k + 1),
      sum_to_most c.args.q c.requires c.loop-k.k,
    ))

pub loop-k-preserved : goal.loop-k-preserved
loop-k-preserved c = (
  search rules,
  term_next c.args.q c.loop-k.k c.loop-k.term c.loop-k.invariant.1,
  sum_to_next (term c.args.q) c.loop-k.k c.loop-k.z _ c.loop-k.invariant.2 (term_next c.args.q c.loop-k.k c.loop-k.term c.loop-k.invariant.1),
)

pub returns : goal.returns
returns c =
    let k : c.loop-k.k ≡ 30 = omega arith in
    let z : c.loop-k.z ≡ sum_to (term c.args.q) 30 = rw k at c.loop-k.invariant.2 in
    (z, rw z (sum_to_least c.args.q 30), rw z (sum_to_most c.args.q c.requires 30))
