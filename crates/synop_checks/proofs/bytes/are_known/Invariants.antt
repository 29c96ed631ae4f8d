-- `synop_checks::bytes::are_known` meets its contract. The invariant: the bytes read so far are known or not.
use Rattle.synop_checks.proofs.Reading.{Knowing}
use Rattle.synop_checks.proofs.bytes.are_known.Given as goal

abbrev pub invariant-loop-b : goal.invariant-loop-b
invariant-loop-b l = Knowing l.s l.known l.b-index
