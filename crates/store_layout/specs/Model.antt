-- What a store holds, without its bytes: a date, and stations ascending by number, each with its nine slots.
-- Assumes nothing.
use Rattle.std.specs.Prelude.{List, ℕ, get_or}
use Rattle.laws.specs.Table.{table}
use Rattle.quality.specs.Cell.{Cell, none}
use Rattle.quality.specs.declared.head.SlotHead.{SlotHead}

-- A station's block: its nine slot heads ("filed 0 or 1; iR 0 to 4, else 5; tR 0 to 9; dd 0 to 36 or 99, else 100"; S-3: "a rank byte .. and a
-- zero byte"; S-6: each slot's dd is copied "to the last head byte"), and its raw and checked cells as sheets, nine columns in the elements'
-- order each
pub record Block : Type 0 where
  pub heads : List SlotHead
  pub raw : List (List Cell)
  pub checked : List (List Cell)

-- A station: its entry ("number IIiii, climate row (0 lowland, 1 hill), settled", S-6: the settled number 0 to 9) and its block
pub record Station : Type 0 where
  pub number : ℕ
  pub row : ℕ
  pub settled : ℕ
  pub block : Block

-- The store: the date D and the stations
pub record Store : Type 0 where
  pub year : ℕ
  pub month : ℕ
  pub day : ℕ
  pub stations : List Station

-- "all slots unfiled, with iR 5, tR 0, dd 100"; S-3: the rank "0 while unfiled"
abbrev pub unfiled : SlotHead
unfiled = record { filed = 0; ir = 5; tr = 0; dd = 100; rank = 0; copy = 0 }

-- "cells missing with flag 0"
abbrev pub empty_sheet : List (List Cell)
empty_sheet = table 9 (λ e. table 9 (λ k. none))

abbrev pub empty_block : Block
empty_block = record { heads = table 9 (λ k. unfiled); raw = empty_sheet; checked = empty_sheet }

abbrev pub empty_station : Station
empty_station = record { number = 0; row = 0; settled = 0; block = empty_block }

-- the head of slot k; the station at index i
abbrev pub head_of : Block → ℕ → SlotHead
head_of b k = get_or b.heads k unfiled

abbrev pub station_at : List Station → ℕ → Station
station_at ss i = get_or ss i empty_station
