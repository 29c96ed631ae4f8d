-- `vapour::table::Table::pressure` meets its contract: its index is the dew point's.
use mir.Syntax.{w16}
use mir.Val.{SFits}
use Rattle.std.proofs.lemmas.Int.{to_z-of_z}
use Rattle.vapour.proofs.Lookup.{at_dew_point}
use Rattle.vapour.proofs.table.Table.pressure.Goals as goal

pub returns : goal.returns
returns c =
    let t = c.args.dew_point in
    let f : SFits w16 t = c.ranges.dew_point in
    rw (c.at.ensures, c.from.ensures, c.abs_diff.ensures, at_dew_point t (simp to_z-of_z at c.if-dew_point-lt-LOWEST.false) (simp to_z-of_z at c.if-dew_point-gt-HIGHEST.false))
    (simp to_z-of_z)
