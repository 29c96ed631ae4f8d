-- Which models are stores: "A buffer that breaks any of this is unsound", said of the model.
-- Assumes nothing.
use Rattle.std.specs.Prelude.{◌≡◌, Bool, true, cond, ◌&&◌, ◌||◌, ℕ, suc, ◌≤◌, ◌<◌, leb, eqb, length}
use Rattle.calendar.specs.Dates.{is_date}
use Rattle.quality.specs.Valid.{RawSheet, ValidSheet}
use Rattle.store_layout.specs.Model.{Block, Station, Store, head_of, station_at}
use Rattle.quality.specs.declared.head.SlotHead.{SlotHead}

-- "dd 0 to 36 or 99, else 100"
abbrev pub is_direction : ℕ → Bool
is_direction dd = leb dd 36 || eqb dd 99 || eqb dd 100

-- S-3: "0 for an ordinary report, 1 to 24 for A to X"
abbrev pub highest_rank : ℕ
highest_rank = 24

abbrev pub is_rank : ℕ → Bool
is_rank rank = leb rank highest_rank

-- S-6: whether "a settling is under way", by the settled number: "2 to 5 while range, internal, time or fill is due, 6 to 9 if such a
-- report came since"
abbrev pub is_under_way : ℕ → Bool
is_under_way settled = leb 2 settled

-- S-6: the last byte of a head "holds a dd, 0 to 36, 99 or 100, while a settling is under way, else 0"
abbrev pub is_copy : ℕ → ℕ → Bool
is_copy settled copy = cond (is_under_way settled) (is_direction copy) (eqb copy 0)

-- "nine slot heads .. (filed 0 or 1; iR 0 to 4, else 5; tR 0 to 9; dd 0 to 36 or 99, else 100)"; S-3: "a rank byte (0 to 24, 0 while
-- unfiled)". Of a station with that settled number
unfoldable pub is_head : ℕ → SlotHead → Bool
is_head settled h =
    leb h.filed 1 && leb h.ir 5 && leb h.tr 9 && is_direction h.dd
    && is_rank h.rank
    && (eqb h.filed 1 || eqb h.rank 0)
    && is_copy settled h.copy

abbrev pub ValidHead : ℕ → SlotHead → Type 0
ValidHead settled h = is_head settled h ≡ true

-- the block of a station with that settled number
pub record ValidBlock (settled : ℕ) (b : Block) : Type 0 where
  pub nine : length b.heads ≡ 9
  pub heads : (k : ℕ) → k < 9 → ValidHead settled (head_of b k)
  pub raw : RawSheet b.raw
  pub checked : ValidSheet b.checked

-- "number IIiii (32 bits, 1 to 99999), climate row (16 bits, 0 lowland, 1 hill), settled (16 bits, 0 or 1)"; S-6: the settled number
-- is 2 to 9 while a settling is under way
unfoldable pub is_entry : ℕ → ℕ → ℕ → Bool
is_entry number row settled = leb 1 number && leb number 99999 && leb row 1 && leb settled 9

pub record ValidStation (s : Station) : Type 0 where
  pub entry : is_entry s.number s.row s.settled ≡ true
  pub block : ValidBlock s.settled s.block

-- "One store covers one day and 1 to 32 land stations"; "ascending by station, each once"
pub record ValidStore (m : Store) : Type 0 where
  pub date : is_date m.year m.month m.day ≡ true
  pub some : 1 ≤ length m.stations
  pub few : length m.stations ≤ 32
  pub each : (i : ℕ) → i < length m.stations → ValidStation (station_at m.stations i)
  pub ascending : (i : ℕ) → suc i < length m.stations → (station_at m.stations i).number < (station_at m.stations (suc i)).number
