-- `dayline_text::input::first_line` meets its contract.
use Rattle.dayline_text.proofs.Beginnings.{none, more, begins}
use Rattle.dayline_text.proofs.input.first_line.Goals as goal

pub loop-init : goal.loop-init
loop-init c = none _ c.new-line.ensures

pub loop-preserved : goal.loop-preserved
loop-preserved c =
    more _ _ _ c.read-answer.result c.read-answer.ensures.prefix_len c.loop.invariant (rw c.in_default.is at c.in_ok-place.ensures)

pub returns-in-Some : goal.returns-in-Some
returns-in-Some c =
    begins _ _ _ _ c.read-answer.result c.read-answer.ensures.prefix_len c.loop.invariant (rw c.in-Some.is at c.in_ok-place.ensures)
