-- `vapour::table::Table::new` meets its contract. The first `refl` is the test of the rule at every number of the two constants, which antt
-- computes here.
use mathlib.Core.Path.{refl}
use Rattle.vapour.proofs.Rule.{all_right}
use Rattle.vapour.proofs.table.Table.new.Goals as goal

pub invariant_of-result : goal.invariant_of-result
invariant_of-result c = record { kept = all_right _ _ refl refl refl }
