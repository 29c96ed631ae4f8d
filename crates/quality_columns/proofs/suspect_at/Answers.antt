-- `quality_columns::suspect_at` meets its contract: another flag at a slot is a cell with that flag there.
use mathlib.Core.Path.{◌≡◌, sym, ◌∙◌, ap}
use Prim.Native.Nat.{ℕ, ◌<◌}
use borrow.Author.Rules.{rules}
use lib.IntN.{pos}
use lib.ListN.{get_or, set}
use Rattle.std.proofs.lemmas.List.{set-get_or}
use Rattle.quality.specs.declared.column.Column.{Column}
use Rattle.quality.specs.Cell.{Cell, slot, flagged}
use Rattle.quality.specs.Coded.{cells}
use Rattle.quality.specs.Steps.{suspect_at}
use Rattle.quality.proofs.Columns.{Nine, slot_cells, cells_put}
use Rattle.quality_columns.proofs.suspect_at.Goals as goal

-- a store of the state and the value that are there changes nothing
flag_put : (c : Column) (k f : ℕ) → Nine c → k < 9 → cells (record { values = c.values; states = c.states; flags = set c.flags k f }) ≡ set (cells c) k (flagged f (slot (cells c) k))
flag_put c k f n h =
    sym (λ i. cells (record { values = set-get_or c.values k (pos 0) i; states = set-get_or c.states k 0 i; flags = set c.flags k f }))
    ∙ cells_put c k (get_or c.states k 0) f (get_or c.values k (pos 0)) n h
    ∙ ap (λ (d : Cell). set (cells c) k (flagged f d)) (slot_cells c k h)

pub returns : goal.returns
unfolding suspect_at
returns c = flag_put c.args.c c.args.k 4 (record { values = search rules; states = search rules; flags = search rules }) (search rules)
