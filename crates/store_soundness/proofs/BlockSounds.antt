-- Laws of a sound block: the order in which the code makes the tests.
-- Assumes nothing.
use mathlib.Core.Path.{◌≡◌, ap}
use mathlib.Core.Bool.{◌&&◌}
use mathlib.Core.List.{List}
use Prim.Native.Nat.{ℕ, ◌+◌, ◌*◌}
use native.Mathlib.Omega.{arith}
use Rattle.laws.specs.All.{all}
use Rattle.store_layout.specs.Layout.{head_at, cell_length, raw_from, checked_from, cell_index, cell_element, cell_slot}
use Rattle.store_layout.specs.Sound.{sound_head, sound_cell, sound_block}
use Rattle.store_numbers.proofs.Passed.{all_ext}

-- a block's cells lie side by side, that of cell_element j at cell_slot j at the j-th place
in_row : (at from j : ℕ) → at + (from + cell_length * cell_index (cell_element j) (cell_slot j)) ≡ at + from + cell_length * j
in_row at from j = omega arith

module _ (s : List ℕ) (at : ℕ) where
  side_by_side : (states flags from : ℕ)
      → all (λ j. sound_cell states flags (cell_element j) s (at + (from + cell_length * cell_index (cell_element j) (cell_slot j)))) 81
      ≡ all (λ j. sound_cell states flags (cell_element j) s (at + from + cell_length * j)) 81
  side_by_side states flags from = all_ext _ _ 81 (λ j l. ap (sound_cell states flags (cell_element j) s) (in_row at from j))

  pub block_in_turn : (settled : ℕ) → sound_block settled s at
      ≡ (all (λ k. sound_head settled s (at + head_at k)) 9
      && all (λ j. sound_cell 1 0 (cell_element j) s (at + raw_from + cell_length * j)) 81
      && all (λ j. sound_cell 3 4 (cell_element j) s (at + checked_from + cell_length * j)) 81)
  unfolding sound_block
  block_in_turn settled = rw (side_by_side 1 0 raw_from, side_by_side 3 4 checked_from)
