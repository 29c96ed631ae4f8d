-- Where a station lies in the list of station numbers.
-- Assumes nothing.
use Rattle.std.specs.Prelude.{cond, List, [], ◌∷◌, map, ℕ, suc, eqb}
use Rattle.store_layout.specs.Model.{Station, Store}

-- the index of a station, or nowhere ("station not in the store")
pub data Index : Type 0 where
  nowhere : Index
  index : ℕ → Index

abbrev pub next : Index → Index
next nowhere = nowhere
next (index i) = index (suc i)

unfoldable pub index_in : List ℕ → ℕ → Index
index_in [] x = nowhere
index_in (y ∷ ys) x = cond (eqb y x) (index 0) (next (index_in ys x))

abbrev pub numbers : Store → List ℕ
numbers m = map (λ (t : Station). t.number) m.stations
