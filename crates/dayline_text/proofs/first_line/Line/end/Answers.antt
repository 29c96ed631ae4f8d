-- `dayline_text::first_line::Line::end` meets its contract.
use Rattle.dayline_text.proofs.Lines.{end_pushed}
use Rattle.dayline_text.proofs.first_line.Line.end.Goals as goal

pub returns-in-Some : goal.returns-in-Some
returns-in-Some c =
    end_pushed _ c.in-Some.n c.in-Some.is _ _ _ c.is_ok.ensures.value c.try_push.ensures.adds c.try_push.ensures.room c.try_push.ensures.full
