-- `dayline_day::filing::line` meets its contract.
use Rattle.dayline_day.proofs.Stations.{line_shown, line_none}
use Rattle.dayline_day.proofs.filing.line.Goals as goal

pub returns-in-Ok : goal.returns-in-Ok
returns-in-Ok c = line_shown _ _ c.day.result c.day.ensures _ c.in-Ok.day c.in-Ok.is c.day_text.ensures

pub returns-in-Err : goal.returns-in-Err
returns-in-Err c = line_none _ _ c.day.result c.day.ensures _ c.in-Err.field-0 c.in-Err.is c.new.ensures
