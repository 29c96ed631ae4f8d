-- `synop::walk`: the walk so far is one of `Walking`, and what is left of the text gets shorter.
use Prim.Native.Nat.{◌-◌}
use lib.ListN.{length}
use Rattle.synop.proofs.Walking.{Walked}
use Rattle.synop.proofs.walk.Given as goal

abbrev pub invariant-loop-g : goal.invariant-loop-g
invariant-loop-g l = Walked l.text l.kept.groups l.place l.ranged l.cursor.at

abbrev pub decreases-loop-g : goal.decreases-loop-g
decreases-loop-g l = length l.text - l.cursor.at
