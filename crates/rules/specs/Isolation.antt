-- Demand 3: what other stations' calls bring, and when, never shows in a station's records or answers.
-- Assumes nothing.
use Rattle.std.specs.Prelude.{◌≡◌, true, List, [], ◌∷◌, ℕ, ◌+◌, ◌<◌, length, get_or}
use Rattle.store_layout.specs.Layout.{encode, store_length, entry_length, block_length}
use Rattle.store_layout.specs.Opening.{openable, fresh}
use Rattle.rules.specs.Calls.{Call}
use Rattle.rules.specs.Runs.{Engine, log, left, naming, naming_log, records}

-- a list of stations, with their climate rows, that an open accepts on the date, and that has the station x with that row
pub record Opens (year month day : ℕ) (numbers rows : List ℕ) : Type 0 where
  pub accepted : openable (store_length (length numbers)) year month day numbers rows ≡ true

pub record Has (numbers rows : List ℕ) (x row : ℕ) : Type 0 where
  pub index : ℕ
  pub inside : index < length numbers
  pub number : get_or numbers index 0 ≡ x
  pub climate : get_or rows index 0 ≡ row

-- "a freshly opened store is what an accepted open leaves"
abbrev pub opened : ℕ → ℕ → ℕ → List ℕ → List ℕ → List ℕ
opened year month day numbers rows = encode (fresh year month day numbers rows)

module _ (engine : Engine) where
  -- what two runs show of the station x is the same: the calls that name it with their answers, and its records at the end
  pub record Alike (x : ℕ) (s t : List ℕ) (cs ds : List Call) : Type 0 where
    pub answers : naming_log x (log engine cs s) ≡ naming_log x (log engine ds t)
    pub remains : records x (left engine cs s) ≡ records x (left engine ds t)

  -- Runs A and B and the run of S's calls alone agree: for every date, every station x with its row, any two lists of stations that have
  -- x with that row and that open accepts, and any two lists of calls whose calls naming x are the same. The records are there: an entry
  -- and a block.
  pub record Isolated : Type 0 where
    pub alone : (year month day x row : ℕ) (numbers rows : List ℕ) → Opens year month day numbers rows → Has numbers rows x row
        → Opens year month day (x ∷ []) (row ∷ [])
    pub alike : (year month day x row : ℕ) (numbersA rowsA numbersB rowsB : List ℕ) (calls_a calls_b : List Call)
        → Opens year month day numbersA rowsA → Has numbersA rowsA x row → Opens year month day numbersB rowsB → Has numbersB rowsB x row
        → naming x calls_a ≡ naming x calls_b
        → (Alike x (opened year month day numbersA rowsA) (opened year month day (x ∷ []) (row ∷ [])) calls_a (naming x calls_a))
        × (Alike x (opened year month day numbersB rowsB) (opened year month day (x ∷ []) (row ∷ [])) calls_b (naming x calls_a))
        × (Alike x (opened year month day numbersA rowsA) (opened year month day numbersB rowsB) calls_a calls_b)
        × (length (records x (left engine calls_a (opened year month day numbersA rowsA))) ≡ entry_length + block_length)
