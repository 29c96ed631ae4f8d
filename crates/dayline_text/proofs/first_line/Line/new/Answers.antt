-- `dayline_text::first_line::Line::new` meets its contract.
use mathlib.Core.Path.{refl}
use Rattle.dayline_text.proofs.Lines.{new_line}
use Rattle.dayline_text.proofs.first_line.Line.new.Goals as goal

pub returns : goal.returns
returns c = new_line _ c.new.ensures refl refl
