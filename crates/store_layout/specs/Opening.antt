-- Opening a store: what is refused 10, and what an accepted open leaves.
-- Assumes nothing.
use Rattle.std.specs.Prelude.{Bool, ◌&&◌, List, ℕ, suc, ◌-◌, leb, ltb, eqb, length, get_or}
use Rattle.laws.specs.All.{all}
use Rattle.laws.specs.Table.{table}
use Rattle.calendar.specs.Dates.{is_date}
use Rattle.store_layout.specs.Model.{Store, empty_block}
use Rattle.store_layout.specs.Form.{Form, ours}

-- "n not 1 to 32, .. bad date, row not 0 or 1, numbers not strictly ascending in 1 to 99999" is refused 10; so are lists of numbers and
-- rows of different lengths
unfoldable pub can_open : ℕ → ℕ → ℕ → List ℕ → List ℕ → Bool
can_open year month day numbers rows =
    leb 1 (length numbers) && leb (length numbers) 32 && eqb (length rows) (length numbers) && is_date year month day
    && all (λ i. leb 1 (get_or numbers i 0) && leb (get_or numbers i 0) 99999 && leb (get_or rows i 0) 1) (length numbers)
    && all (λ i. ltb (get_or numbers i 0) (get_or numbers (suc i) 0)) (length numbers - 1)

-- so is a buffer of "wrong length" for the form; `size` is the buffer's
unfoldable pub openable_in : Form → ℕ → ℕ → ℕ → ℕ → List ℕ → List ℕ → Bool
openable_in form size year month day numbers rows = can_open year month day numbers rows && eqb size (form.size (length numbers))

abbrev pub openable : ℕ → ℕ → ℕ → ℕ → List ℕ → List ℕ → Bool
openable = openable_in ours

-- "all slots unfiled, with iR 5, tR 0, dd 100, cells missing with flag 0, unsettled"
unfoldable pub fresh : ℕ → ℕ → ℕ → List ℕ → List ℕ → Store
fresh year month day numbers rows =
    record {
      year = year;
      month = month;
      day = day;
      stations = table (length numbers) (λ i. record { number = get_or numbers i 0; row = get_or rows i 0; settled = 0; block = empty_block });
    }
