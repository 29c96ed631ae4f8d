-- What opening a store answers, and the buffer that it leaves.
-- Assumes nothing.
use Rattle.std.specs.Prelude.{◌≡◌, Bool, cond, ◌&&◌, List, ℕ, suc, ◌-◌, leb, ltb, length, get_or, Result, Ok, Err}
use Rattle.refusals.specs.declared.Refusal.{Refusal}
use Rattle.refusals.specs.declared.Refusal.TheVariants.{Unopenable}
use Rattle.laws.specs.All.{all}
use Rattle.store_layout.specs.Layout.{encode}
use Rattle.store_layout.specs.Opening.{openable, fresh}

-- "row not 0 or 1, numbers not strictly ascending in 1 to 99999" is refused
unfoldable pub listed : List ℕ → List ℕ → Bool
listed numbers rows =
    all (λ i. leb 1 (get_or numbers i 0) && leb (get_or numbers i 0) 99999 && leb (get_or rows i 0) 1) (length numbers)
    && all (λ i. ltb (get_or numbers i 0) (get_or numbers (suc i) 0)) (length numbers - 1)

-- s is the buffer before, t after: a fresh store, "every byte", or, where it is refused, s itself
pub record Opened (s : List ℕ) (year month day : ℕ) (numbers rows : List ℕ) (result : Result (Unit {0}) Refusal) (t : List ℕ) : Type 0 where
  pub answer : result ≡ cond (openable (length s) year month day numbers rows) (Ok tt) (Err Unopenable)
  pub left : t ≡ cond (openable (length s) year month day numbers rows) (encode (fresh year month day numbers rows)) s
