-- `dayline_day::filing::Progress::tail` meets its contract.
use Rattle.dayline_day.proofs.FiledPieces.{tail_blank, tail_filed}
use Rattle.dayline_day.proofs.filing.Progress.tail.Goals as goal

pub returns-then-not-self : goal.returns-then-not-self
returns-then-not-self c = λ run u. tail_filed run _ _ _ u.blank c.if-not-self.true _ _ (c.finish.ensures.filed run u.keeps)

pub returns-else-not-self : goal.returns-else-not-self
returns-else-not-self c = λ run u. tail_blank run _ _ _ u.blank c.if-not-self.false
