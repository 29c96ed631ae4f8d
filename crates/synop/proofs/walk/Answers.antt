-- `synop::walk` meets its contract: one group further, by the law of `Walking`.
use Rattle.synop.proofs.Walking.{more}
use Rattle.synop.proofs.walk.Goals as goal

pub loop-g-preserved : goal.loop-g-preserved
loop-g-preserved c =
    more c.loop-g.invariant c.in-Some.ensures c.shaped.ensures c.if-not-shaped.false c.ranged-ranged.ensures c.next-place.ensures c.keep.ensures
