-- `quality::column::Column::put` meets its contract: a store at one slot of each of the three arrays.
use mathlib.Core.Path.{◌≡◌}
use borrow.Author.Rules.{rules}
use mir.Syntax.{w16}
use mir.Val.{to_z, of_z}
use Rattle.quality.proofs.Columns.{cells_put}
use Rattle.quality.proofs.column.Column.put.Goals as goal

pub returns : goal.returns
returns c =
    let a = c.args in
    let kept : to_z w16 (of_z w16 a.d.value) ≡ a.d.value = search rules in
    rw kept (cells_put a.self a.k a.d.state a.d.flag a.d.value (record { values = search rules; states = search rules; flags = search rules }) (search rules))
