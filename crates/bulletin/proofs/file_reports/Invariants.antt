-- `bulletin::file_reports` meets its contract. The invariant: what is left gives what was asked at the start.
use lib.ListN.{length}
use Rattle.bulletin.specs.Rebuilt.{heading}
use Rattle.bulletin.proofs.Reports.{Filing}
use Rattle.bulletin.proofs.file_reports.Given as goal

abbrev pub invariant-loop-end : goal.invariant-loop-end
invariant-loop-end l = Filing l.rank (heading l.time) l.text l.initial.store l.rest l.accepted l.refused l.store

abbrev pub decreases-loop-end : goal.decreases-loop-end
decreases-loop-end l = length l.rest
