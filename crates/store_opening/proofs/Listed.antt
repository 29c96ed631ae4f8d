-- What opening refuses: the tests in the order in which the code makes them.
-- Assumes nothing.
use mathlib.Core.Path.{◌≡◌, refl, sym, ◌∙◌}
use mathlib.Core.List.{List}
use mathlib.Core.Bool.{Bool, true, false, ◌&&◌, and_assoc}
use Prim.Native.Nat.{ℕ, ◌≤◌}
use borrow.Author.Tests.{le-leb, eq-eqb, ne_eqb}
use lib.Dec.{leb}
use lib.ListN.{length, get_or}
use Rattle.laws.specs.All.{all}
use Rattle.laws.proofs.Bools.{and_false_right}
use Rattle.calendar.specs.Dates.{is_date}
use Rattle.store_layout.specs.Layout.{store_length}
use Rattle.store_layout.specs.Opening.{can_open, openable_in, openable}
use Rattle.store_opening.specs.Opened.{listed}
use Rattle.store_numbers.proofs.Ascending.{in_order, in_turn}

abbrev pub station_in_order : List ℕ → List ℕ → ℕ → Bool
station_in_order numbers rows = in_order (λ i. get_or numbers i 0) (λ i. leb 1 (get_or numbers i 0) && leb (get_or numbers i 0) 99999 && leb (get_or rows i 0) 1)

pub listed_in_turn : (numbers rows : List ℕ) → all (station_in_order numbers rows) (length numbers) ≡ listed numbers rows
unfolding listed
listed_in_turn numbers rows = in_turn (λ i. get_or numbers i 0) (λ i. leb 1 (get_or numbers i 0) && leb (get_or numbers i 0) 99999 && leb (get_or rows i 0) 1) (repeated (leb 1 (get_or numbers 0 0)) _ _) (length numbers)
  where
    repeated : (a b c : Bool) → (a && (a && b && c)) ≡ (a && b && c)
    repeated true b c = refl
    repeated false b c = refl

-- the sizes, then the date, then the list
pub sized : (size year month day : ℕ) (numbers rows : List ℕ) → 1 ≤ length numbers → length numbers ≤ 32 → length rows ≡ length numbers → size ≡ store_length (length numbers)
    → openable size year month day numbers rows ≡ (is_date year month day && listed numbers rows)
unfolding openable_in can_open listed
sized size year month day numbers rows a b c d =
    rw (le-leb 1 (length numbers) a, le-leb (length numbers) 32 b, eq-eqb (length rows) (length numbers) c, eq-eqb size (store_length (length numbers)) d)
    (last _ ∙ and_assoc (is_date year month day) _ _)
  where
    last : (b : Bool) → (b && true) ≡ b
    last true = refl
    last false = refl

-- another size
pub unsized : (size year month day : ℕ) (numbers rows : List ℕ) → (size ≡ store_length (length numbers) → ⊥) → false ≡ openable size year month day numbers rows
unfolding openable_in
unsized size year month day numbers rows h = sym (and_false_right (can_open year month day numbers rows) _ (ne_eqb size (store_length (length numbers)) h))
