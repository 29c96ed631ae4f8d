-- `store_block::block::sheet_of` meets its contract. The loop's invariant: the columns read so far.
use mathlib.Core.List.{[]}
use Rattle.laws.proofs.Fill.{Done}
use Rattle.quality.specs.Coded.{sheet}
use Rattle.quality.specs.Elements.{column}
use Rattle.store_layout.specs.Layout.{decode_block}
use Rattle.store_numbers.specs.Areas.{sheet_in}
use Rattle.store_block.proofs.block.sheet_of.Given as goal

abbrev pub invariant-loop-element : goal.invariant-loop-element
invariant-loop-element l = Done (column (sheet_in l.area (decode_block l.block))) [] 9 (sheet l.column-items) l.element
