-- `dayline_day::filing::Progress::feed` meets its contract. The invariant: the first bytes of the piece are read.
use Rattle.dayline_day.specs.Filing.{marked}
use Rattle.dayline_day.proofs.FiledPieces.{Feeding}
use Rattle.dayline_day.proofs.filing.Progress.feed.Given as goal

abbrev pub invariant-loop-b : goal.invariant-loop-b
invariant-loop-b l = Feeding l.piece l.initial.self l.initial.store (marked l.blank l.self) l.store l.b-index
