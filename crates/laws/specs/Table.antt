-- A table: the list of a function's values at 0 .. n - 1.
-- Assumes nothing.
use Rattle.std.specs.Prelude.{List, [], ◌∷◌, ℕ, zero, suc}

module _ {A : Type 0} where
  unfoldable pub table : ℕ → (ℕ → A) → List A
  table zero f = []
  table (suc n) f = f zero ∷ table n (λ k. f (suc k))
