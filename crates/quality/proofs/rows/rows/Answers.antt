-- `quality::rows::rows` meets its contract: antt computes the rule at all 36 rows of the constant.
use mathlib.Core.Path.{refl}
use Rattle.laws.specs.Table.{table}
use Rattle.quality.proofs.rows.rows.Goals as goal

pub returns : goal.returns
unfolding table
returns c = refl
