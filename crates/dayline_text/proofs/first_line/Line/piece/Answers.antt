-- `dayline_text::first_line::Line::piece` meets its contract.
use Rattle.std.proofs.Common.{rules}
use Rattle.dayline_text.proofs.Lines.{reading_none, reading_more, read_all}
use Rattle.dayline_text.proofs.first_line.Line.piece.Goals as goal

pub loop-b-init : goal.loop-b-init
loop-b-init c = reading_none _ _

pub loop-b-preserved : goal.loop-b-preserved
loop-b-preserved c = reading_more _ c.loop-b.invariant (search rules) c.byte.ensures

pub returns : goal.returns
returns c = read_all c.loop-b.invariant (search rules)
