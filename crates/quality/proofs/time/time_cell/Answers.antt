-- `quality::time::time_cell` meets its contract.
use borrow.Author.Rules.{rules}
use Rattle.quality.specs.Steps.{time_cell}
use Rattle.quality.proofs.time.time_cell.Goals as goal

pub returns-then-odd : goal.returns-then-odd
unfolding time_cell
returns-then-odd c = search rules
