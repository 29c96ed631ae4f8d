-- A text of fixed room, and what writing more behind it does.
-- Assumes nothing.
use Rattle.std.specs.Prelude.{◌≡◌, List, ◌++◌, ℕ, ◌-◌, take, length}

-- as much of a text as there is room for
abbrev pub fitting : ℕ → List ℕ → List ℕ
fitting room text = take room text

-- what is held is a text, or as much of it as there is room for
abbrev pub Holds : ℕ → List ℕ → List ℕ → Type 0
Holds room held text = held ≡ fitting room text

-- s is written behind the text that was there, as far as there is room
pub record Adds (room : ℕ) (old new s : List ℕ) : Type 0 where
  pub adds : new ≡ old ++ fitting (room - length old) s
