-- `dayline_text::first_line::Line::piece` meets its contract. The invariant: what the line opens that goes on with the rest of s is what was asked.
use Rattle.dayline_text.proofs.Lines.{Reading}
use Rattle.dayline_text.proofs.first_line.Line.piece.Given as goal

abbrev pub invariant-loop-b : goal.invariant-loop-b
invariant-loop-b l = Reading l.initial.self l.s l.self l.b-index
