-- `dayline_day::filing::station_text` meets its contract.
use Rattle.dayline_day.proofs.Stations.{printed}
use Rattle.dayline_day.proofs.filing.station_text.Goals as goal

pub returns : goal.returns
returns c = printed _ _ c.settle.ensures _ c.line.ensures
