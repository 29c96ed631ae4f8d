-- `bulletin::text::squeeze` meets its contract.
use Rattle.bulletin.proofs.Squeezed.{group_put}
use Rattle.bulletin.proofs.text.squeeze.Goals as goal

pub loop-start-preserved : goal.loop-start-preserved
loop-start-preserved g c = λ new f. c.loop-start.invariant new (group_put c.in-Some.ensures c.put.ensures c.put_all.ensures f)
