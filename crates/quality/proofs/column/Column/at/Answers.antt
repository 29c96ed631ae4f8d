-- `quality::column::Column::at` meets its contract.
use mathlib.Core.Path.{◌≡◌, ◌∙◌, ap}
use borrow.Author.Rules.{rules}
use lib.IntN.{ℤ, pos}
use lib.ListN.{get_or}
use mir.Syntax.{w16}
use mir.Val.{to_z, of_z}
use Rattle.quality.proofs.Columns.{slot_cells}
use Rattle.quality.proofs.column.Column.at.Goals as goal

pub returns : goal.returns
returns c =
    let s = c.args.self in
    let k = c.args.k in
    let v = get_or s.values k (pos 0) in
    let kept : to_z w16 (of_z w16 v) ≡ v = search rules in
    ap (λ (z : ℤ). record { state = get_or s.states k 0; flag = get_or s.flags k 0; value = z }) kept ∙ slot_cells s k (search rules)
