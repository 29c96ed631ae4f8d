-- Document 02, S-1: the generator of the table, which fills a slice that it is lent.
-- Assumes nothing.
use Rattle.std.specs.Prelude.{◌≡◌, List, ℕ, length, get_or, Option, Some, Result, Ok, Err}
use Rattle.vapour.specs.Vapour.{places, Entries}
use Rattle.vapour.specs.declared.LengthNeeded.{LengthNeeded}

-- lent the numbers xs, the generator answered r and left the numbers ys; an answer is `full` or `needs` a length
pub record Fills {A : Type 0} (full : A) (needs : ℕ → A) (xs : List ℕ) (r : A) (ys : List ℕ) : Type 0 where
  -- "fills a lent slice of 1001 numbers by 01's recurrence"
  pub filled : length xs ≡ places → (r ≡ full) × Entries ys
  -- "A slice of any other length is left as it was, and the answer says so by giving the length needed."
  pub left : (length xs ≡ places → ⊥) → (r ≡ needs places) × (ys ≡ xs)

abbrev pub Generated : List ℕ → Result Unit LengthNeeded → List ℕ → Type 0
Generated = Fills (Ok tt) (λ n. Err (record { 0 = n }))

-- "S-1's slice is now shown equal to the lookup, entry by entry" (S-4): r, what the lookup tells at the dew point of the index i, is
-- what every slice that is filled has there
abbrev pub AsFilled : ℕ → Option ℕ → Type 0
AsFilled i r = (xs ys : List ℕ) → Generated xs (Ok tt) ys → r ≡ Some (get_or ys i 0)
