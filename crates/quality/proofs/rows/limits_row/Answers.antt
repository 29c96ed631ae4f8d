-- `quality::rows::limits_row` meets its contract: the rule of the whole table, at one row.
use mathlib.Core.Path.{◌≡◌, sym, ◌∙◌, ap}
use mathlib.Core.List.{List, [], map}
use Prim.Native.Nat.{ℕ, ◌<◌}
use borrow.Author.Rules.{rules}
use lib.IntN.{ℤ, pos}
use lib.ListN.{get_or, get_or-map}
use mir.Syntax.{w16}
use mir.Val.{to_z, of_z}
use Rattle.laws.specs.Table.{table}
use Rattle.laws.proofs.Tables.{get_d_table}
use Rattle.quality.specs.Limits.{Limits}
use Rattle.quality.specs.Rows.{of_row, row_limits}
use Rattle.quality.proofs.rows.limits_row.Goals as goal

at : (rows : List (List ℤ)) (i : ℕ) (d : List ℤ) → map of_row rows ≡ table 36 row_limits → i < 36 → of_row (get_or rows i d) ≡ row_limits i
at rows i d tested h =
    sym (get_or-map of_row rows i d) ∙ ap (λ (l : List Limits). get_or l i (of_row d)) tested
    ∙ get_d_table 36 row_limits i (of_row d) h

pub returns : goal.returns
returns c =
    let l = get_or c.rows.result c.args.at [] in
    let a : to_z w16 (of_z w16 (get_or l 0 (pos 0))) ≡ get_or l 0 (pos 0) = search rules in
    let b : to_z w16 (of_z w16 (get_or l 1 (pos 0))) ≡ get_or l 1 (pos 0) = search rules in
    let d : to_z w16 (of_z w16 (get_or l 2 (pos 0))) ≡ get_or l 2 (pos 0) = search rules in
    let e : to_z w16 (of_z w16 (get_or l 3 (pos 0))) ≡ get_or l 3 (pos 0) = search rules in
    (λ i. record { min2 = a i; min1 = b i; max1 = d i; max2 = e i }) ∙ at c.rows.result c.args.at [] c.rows.ensures (search rules)
