-- `vapour::table::Table::at` meets its contract.
use native.Mathlib.Omega.{arith}
use Rattle.vapour.proofs.Most.{index_most}
use Rattle.vapour.proofs.Rule.{total}
use Rattle.vapour.proofs.table.Table.at.Goals as goal

pub overflow_add-result : goal.overflow_add-result
overflow_add-result c =
    record { fits = omega (arith, total c.args.self.now.kept c.args.index c.requires, c.total.ensures, index_most c.args.index c.requires) }

pub returns : goal.returns
returns c = omega (arith, c.total.ensures, total c.args.self.now.kept c.args.index c.requires)
