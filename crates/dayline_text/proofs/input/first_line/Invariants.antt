-- `dayline_text::input::first_line` meets its contract. The invariant: the line has the bytes of whole pieces without an LF.
use Rattle.dayline_text.specs.Input.{Unended}
use Rattle.dayline_text.proofs.input.first_line.Given as goal

abbrev pub invariant-loop : goal.invariant-loop
invariant-loop l = Unended l.line
