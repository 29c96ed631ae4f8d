-- `dayline_day::filing::Progress::new` meets its contract.
use mathlib.Core.Path.{refl}
use Rattle.dayline_day.proofs.FiledPieces.{begun}
use Rattle.dayline_day.proofs.filing.Progress.new.Goals as goal

pub returns : goal.returns
returns c = begun _ c.new.ensures refl refl
