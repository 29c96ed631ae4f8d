-- `dayline_text::first_line::Line::opened` meets its contract.
use Rattle.std.proofs.Common.{rules}
use Rattle.dayline_text.proofs.Opening.{opens_none, opens_all}
use Rattle.dayline_text.proofs.first_line.Line.opened.Goals as goal

pub returns-then-not-self : goal.returns-then-not-self
returns-then-not-self c = opens_none _ _ c.end.ensures (search rules)

pub returns : goal.returns
returns c =
    opens_all _ _ c.end.ensures _ (search rules) (rw c.deref.ensures.0 at c.pairs_opened.ensures.says) c.pairs_opened.ensures.few
