-- `dayline_text::first_line::Line::byte` meets its contract.
use Rattle.laws.proofs.Bools.{via}
use Rattle.dayline_text.proofs.Lines.{digit_more, other_more}
use Rattle.dayline_text.proofs.first_line.Line.byte.Goals as goal

pub returns-then-is_digit : goal.returns-then-is_digit
returns-then-is_digit c = λ s. rw (c.grown.ensures, c.unwrap_or.ensures) (digit_more _ _ s (via c.is_digit.ensures c.if-is_digit.true))

pub returns : goal.returns
returns c = λ s. rw c.is_blank.ensures (other_more _ _ s _ c.end.ensures (via c.is_digit.ensures c.if-is_digit.false))
