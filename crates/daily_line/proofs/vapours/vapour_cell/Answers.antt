-- `daily_line::vapours::vapour_cell` meets its contract.
use mathlib.Core.Path.{◌∙◌, sym}
use native.Mathlib.Omega.{arith}
use Rattle.vapour.proofs.Most.{pressure_most}
use Rattle.daily_line.proofs.vapours.vapour_cell.Goals as goal

pub share-requires : goal.share-requires
share-requires c = (c.requires.0, omega (arith, pressure_most _ _ (sym c.requires.1 ∙ c.in-Some.is)))
