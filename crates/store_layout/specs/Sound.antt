-- Which buffers are sound: document 01's "The store" up to "A buffer that breaks any of this is unsound", and nothing more.
-- Assumes nothing.
use Rattle.std.specs.Prelude.{Bool, ◌&&◌, List, ℕ, suc, ◌+◌, ◌-◌, leb, ltb, eqb, length}
use Rattle.laws.specs.All.{all}
use Rattle.calendar.specs.Dates.{is_date}
use Rattle.quality.specs.Valid.{is_cell}
use Rattle.store_layout.specs.Layout.{word, long, count_at, list_offset_at, block_offset_at, block_length_at, year_at, month_at, day_at, zero_at, header_length, block_length, entry_at, row_in, settled_in, block_at, store_length, head_at, cell_element, cell_slot, raw_at, checked_at, decode_head, decode_cell}
use Rattle.store_layout.specs.Valid.{is_head, is_entry}

-- the slot head at a position, of a station with that settled number
abbrev pub sound_head : ℕ → List ℕ → ℕ → Bool
sound_head settled s at = is_head settled (decode_head s at)

-- the cell of element e at a position, with the largest state but a humidity's, and the largest flag, that may stand there
abbrev pub sound_cell : ℕ → ℕ → ℕ → List ℕ → ℕ → Bool
sound_cell states flags e s at = is_cell states flags e (decode_cell s at)

-- "Raw cells have state 0 or 1, flag 0."; a humidity, too, flag 0
abbrev pub sound_raw : ℕ → List ℕ → ℕ → Bool
sound_raw = sound_cell 1 0

-- "States: .. 3 filled. Flags: 0 none, .. 4 suspect."
abbrev pub sound_checked : ℕ → List ℕ → ℕ → Bool
sound_checked = sound_cell 3 4

-- the block that begins at a position, of a station with that settled number
unfoldable pub sound_block : ℕ → List ℕ → ℕ → Bool
sound_block settled s at =
    all (λ k. sound_head settled s (at + head_at k)) 9
    && all (λ j. sound_raw (cell_element j) s (at + raw_at (cell_element j) (cell_slot j))) 81
    && all (λ j. sound_checked (cell_element j) s (at + checked_at (cell_element j) (cell_slot j))) 81

-- the entry of the station at index i
abbrev pub sound_entry : List ℕ → ℕ → Bool
sound_entry s i = is_entry (long s (entry_at i)) (word s (entry_at i + row_in)) (word s (entry_at i + settled_in))

-- the station at index i of n: its entry and its block
unfoldable pub sound_station : List ℕ → ℕ → ℕ → Bool
sound_station s n i = sound_entry s i && sound_block (word s (entry_at i + settled_in)) s (block_at n i)

-- "ascending by station, each once": the station at index i is below the next
unfoldable pub sound_order : List ℕ → ℕ → Bool
sound_order s i = ltb (long s (entry_at i)) (long s (entry_at (suc i)))

unfoldable pub sound_header : List ℕ → Bool
sound_header s =
    leb 1 (word s count_at) && leb (word s count_at) 32 && eqb (length s) (store_length (word s count_at))
    && eqb (word s list_offset_at) header_length
    && eqb (word s block_offset_at) (block_at (word s count_at) 0)
    && eqb (word s block_length_at) block_length
    && is_date (word s year_at) (word s month_at) (word s day_at)
    && eqb (word s zero_at) 0

unfoldable pub sound : List ℕ → Bool
sound s = sound_header s && all (sound_station s (word s count_at)) (word s count_at) && all (sound_order s) (word s count_at - 1)
