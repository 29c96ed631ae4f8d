-- Laws of columns: what stands at a slot of the cells that a `Column` stands for, and what a store there does.
-- Assumes nothing.
use mathlib.Core.Path.{◌≡◌, sym, ◌∙◌, subst}
use mathlib.Core.List.{List, map}
use Prim.Native.Nat.{ℕ, ◌<◌}
use native.Mathlib.Decide.{ℕ_discrete}
use lib.IntN.{ℤ, pos}
use lib.ListN.{length, get_or, set, length-set}
use lib.Seq.{get_or-set_same, get_or-set_other}
use Rattle.laws.proofs.Maps.{map_at}
use Rattle.laws.proofs.Tables.{length_table, get_d_table, is_table}
use Rattle.quality.specs.declared.column.Column.{Column}
use Rattle.quality.specs.Cell.{Cell, none, slot}
use Rattle.quality.specs.Coded.{cells}

pub length_cells : (c : Column) → length (cells c) ≡ 9
unfolding cells
length_cells c = length_table 9 _

-- the cell at a slot is made of the three arrays' entries there
abbrev pub cell_of : Column → ℕ → Cell
cell_of c k = record { state = get_or c.states k 0; flag = get_or c.flags k 0; value = get_or c.values k (pos 0) }

pub slot_cells : (c : Column) (k : ℕ) → k < 9 → cell_of c k ≡ slot (cells c) k
unfolding cells
slot_cells c k h = sym (get_d_table 9 (cell_of c) k none h)

-- nine cells, each number in its array, and back
pub cells_of : (c : Column) (xs : List Cell) → length xs ≡ 9 → c.values ≡ map (λ (d : Cell). d.value) xs → c.states ≡ map (λ (d : Cell). d.state) xs
    → c.flags ≡ map (λ (d : Cell). d.flag) xs → cells c ≡ xs
unfolding cells
cells_of c xs long values states flags = sym (is_table 9 (cell_of c) xs none long (λ k h. same k (rw long h)))
  where
    same : (k : ℕ) → k < length xs → slot xs k ≡ cell_of c k
    same k h =
        sym
        (rw (values, states, flags, map_at (λ (d : Cell). d.value) xs k none (pos 0) h, map_at (λ (d : Cell). d.state) xs k none 0 h, map_at (λ (d : Cell). d.flag) xs k none 0 h))

-- each of the three arrays has nine entries
pub record Nine (c : Column) : Type 0 where
  pub values : length c.values ≡ 9
  pub states : length c.states ≡ 9
  pub flags : length c.flags ≡ 9

-- a store at slot k of each of the three arrays is a store of the cell
module _ (c : Column) (k s f : ℕ) (v : ℤ) (n : Nine c) (h : k < 9) where
  abbrev new : Cell
  new = record { state = s; flag = f; value = v }

  abbrev pub stored : Column
  stored = record { values = set c.values k v; states = set c.states k s; flags = set c.flags k f }

  within : {A : Type 0} (xs : List A) → length xs ≡ 9 → k < length xs
  within xs e = subst (λ (n : ℕ). k < n) (sym e) h

  at_slot : (j : ℕ) → j < 9 → Dec (j ≡ k) → slot (set (cells c) k new) j ≡ cell_of stored j
  at_slot j l (yes e) =
      rw e
      (get_or-set_same (cells c) k new none (within (cells c) (length_cells c))
      ∙ sym
      (rw (get_or-set_same c.states k s 0 (within c.states n.states), get_or-set_same c.flags k f 0 (within c.flags n.flags), get_or-set_same c.values k v (pos 0) (within c.values n.values))))
  at_slot j l (no q) =
      get_or-set_other (cells c) k j new none q ∙ sym (slot_cells c j l)
      ∙ sym (rw (get_or-set_other c.states k j s 0 q, get_or-set_other c.flags k j f 0 q, get_or-set_other c.values k j v (pos 0) q))

  pub cells_put : cells stored ≡ set (cells c) k new
  unfolding cells
  cells_put = sym (is_table 9 (cell_of stored) (set (cells c) k new) none (length-set (cells c) k new ∙ length_cells c) (λ j l. at_slot j l (ℕ_discrete j k)))

  pub nine_put : Nine stored
  nine_put = record { values = length-set c.values k v ∙ n.values; states = length-set c.states k s ∙ n.states; flags = length-set c.flags k f ∙ n.flags }
