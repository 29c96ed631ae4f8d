-- `store_block::block::put_sheet` meets its contract. The loop's invariant: what is read of the block has the columns put so far.
use mathlib.Core.Path.{refl, sym, ◌∙◌, ap}
use mathlib.Core.List.{[]}
use Rattle.quality.specs.Coded.{cells, sheet}
use Rattle.store_layout.specs.Updates.{with_checked}
use Rattle.store_numbers.specs.declared.area.Area.TheVariants.{Checked}
use Rattle.store_numbers.specs.Areas.{with_column}
use Rattle.store_block.proofs.Filling.{begun, more, whole_list}
use Rattle.store_numbers.proofs.Sheets.{nine_columns}
use Rattle.laws.proofs.Maps.{map_at}
use lib.ListN.{length-map}
use borrow.Author.Rules.{rules}
use Rattle.store_block.proofs.block.put_sheet.Goals as goal

pub loop-e-init : goal.loop-e-init
unfolding with_checked
loop-e-init c = begun _ _ [] _ _ (search rules) (nine_columns Checked _) refl

pub loop-e-preserved : goal.loop-e-preserved
unfolding with_checked
loop-e-preserved c =
    let l = c.loop-e in
    let p = c.put_checked in
    more l.invariant _ _ (search rules) (search rules)
    (sym (map_at cells c.args.columns l.e (record { values = []; states = []; flags = [] }) [] (search rules)))
    (p.ensures ∙ ap (with_column Checked _ _) l.invariant.reads)

pub returns : goal.returns
unfolding with_checked
returns c = let a = c.args in whole_list (sheet a.columns) c.loop-e.invariant (search rules) (length-map a.columns cells ∙ search rules)
