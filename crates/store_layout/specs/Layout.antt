-- The byte layout: "A lent buffer of 16 + 692n bytes for n stations."; S-3: "a block has 702 bytes and a store 16 + 710n". This file alone
-- knows where a thing lies; rules and calls use `encode`, `decode` and the named positions.
-- Assumes nothing.
use Rattle.std.specs.Prelude.{cond, List, [], ◌∷◌, ◌++◌, ℕ, zero, suc, ◌+◌, ◌*◌, ◌-◌, ◌/◌, ◌%◌, ltb, ℤ, pos, negsuc, length, get_or, take, drop}
use Rattle.laws.specs.Table.{table}
use Rattle.quality.specs.Cell.{Cell, slot}
use Rattle.quality.specs.Elements.{column}
use Rattle.store_layout.specs.Model.{Block, Station, Store, head_of, station_at}
use Rattle.quality.specs.declared.head.SlotHead.{SlotHead}

-- ---- positions
-- "Header, eight 16-bit numbers: n; offset of the station list (16); offset of the blocks (16 + 8n); block length (684); year; month; day;
-- 0."; S-3: "a block has 702 bytes"
abbrev pub count_at : ℕ
count_at = 0

abbrev pub list_offset_at : ℕ
list_offset_at = 2

abbrev pub block_offset_at : ℕ
block_offset_at = 4

abbrev pub block_length_at : ℕ
block_length_at = 6

abbrev pub year_at : ℕ
year_at = 8

abbrev pub month_at : ℕ
month_at = 10

abbrev pub day_at : ℕ
day_at = 12

abbrev pub zero_at : ℕ
zero_at = 14

abbrev pub header_length : ℕ
header_length = 16

abbrev pub entry_length : ℕ
entry_length = 8

-- in a block: "nine slot heads of 4 bytes .., then 81 raw and 81 checked cells"; S-3: "The slot head grows by a rank byte .. and a zero byte".
-- A head begins with filed; where in it iR, tR, dd, the rank and the last byte stand, S-6's copy of dd
abbrev pub head_length : ℕ
head_length = 6

abbrev pub ir_in : ℕ
ir_in = 1

abbrev pub tr_in : ℕ
tr_in = 2

abbrev pub dd_in : ℕ
dd_in = 3

abbrev pub rank_in : ℕ
rank_in = 4

abbrev pub copy_in : ℕ
copy_in = 5

-- a cell begins with its state; where in it the flag and the value stand
abbrev pub cell_length : ℕ
cell_length = 4

abbrev pub flag_in : ℕ
flag_in = 1

abbrev pub value_in : ℕ
value_in = 2

abbrev pub sheet_length : ℕ
sheet_length = cell_length * 81

-- where the raw cells begin, and the checked ones, and where a block ends
abbrev pub raw_from : ℕ
raw_from = head_length * 9

abbrev pub checked_from : ℕ
checked_from = raw_from + sheet_length

abbrev pub block_length : ℕ
block_length = checked_from + sheet_length

-- the entry of the station at index i; in it its number, climate row and settled
abbrev pub entry_at : ℕ → ℕ
entry_at i = header_length + entry_length * i

abbrev pub row_in : ℕ
row_in = 4

abbrev pub settled_in : ℕ
settled_in = 6

-- the block of the station at index i of n
abbrev pub block_at : ℕ → ℕ → ℕ
block_at n i = header_length + entry_length * n + block_length * i

abbrev pub store_length : ℕ → ℕ
store_length n = block_at n n

-- "slot by slot, elements in the order": which cell of its sheet that of element e at slot k is; the element and the slot of the j-th
abbrev pub cell_index : ℕ → ℕ → ℕ
cell_index e k = 9 * k + e

abbrev pub cell_element : ℕ → ℕ
cell_element j = j % 9

abbrev pub cell_slot : ℕ → ℕ
cell_slot j = j / 9

abbrev pub head_at : ℕ → ℕ
head_at k = head_length * k

abbrev pub raw_at : ℕ → ℕ → ℕ
raw_at e k = raw_from + cell_length * cell_index e k

abbrev pub checked_at : ℕ → ℕ → ℕ
checked_at e k = checked_from + cell_length * cell_index e k

-- ---- numbers: "All integers in the store are big-endian"
abbrev pub byte : List ℕ → ℕ → ℕ
byte s i = get_or s i 0

abbrev pub word : List ℕ → ℕ → ℕ
word s i = 256 * byte s i + byte s (i + 1)

abbrev pub long : List ℕ → ℕ → ℕ
long s i = 65536 * word s i + word s (i + 2)

abbrev pub word_bytes : ℕ → List ℕ
word_bytes w = w / 256 ∷ w % 256 ∷ []

abbrev pub long_bytes : ℕ → List ℕ
long_bytes w = w / 65536 / 256 ∷ w / 65536 % 256 ∷ w % 65536 / 256 ∷ w % 256 ∷ []

-- "16 bits, signed": two's complement
abbrev pub signed : ℕ → ℤ
signed w = cond (ltb w 32768) (pos w) (negsuc (65535 - w))

abbrev pub unsigned : ℤ → ℕ
unsigned (pos n) = n
unsigned (negsuc n) = 65535 - n

-- the pieces f 0, f 1, .. f (n - 1), one after the other
unfoldable pub pieces : ℕ → (ℕ → List ℕ) → List ℕ
pieces zero f = []
pieces (suc n) f = f zero ++ pieces n (λ k. f (suc k))

-- ---- a slot head, a cell, a block
unfoldable pub decode_head : List ℕ → ℕ → SlotHead
decode_head s at =
    record {
      filed = byte s at;
      ir = byte s (at + ir_in);
      tr = byte s (at + tr_in);
      dd = byte s (at + dd_in);
      rank = byte s (at + rank_in);
      copy = byte s (at + copy_in);
    }

unfoldable pub encode_head : SlotHead → List ℕ
encode_head h = h.filed ∷ h.ir ∷ h.tr ∷ h.dd ∷ h.rank ∷ h.copy ∷ []

-- "A cell: state and flag (a byte each), value (16 bits, signed ..)."
unfoldable pub decode_cell : List ℕ → ℕ → Cell
decode_cell s at = record { state = byte s at; flag = byte s (at + flag_in); value = signed (word s (at + value_in)) }

unfoldable pub encode_cell : Cell → List ℕ
encode_cell c = c.state ∷ c.flag ∷ word_bytes (unsigned c.value)

unfoldable pub decode_block : List ℕ → Block
decode_block b =
    record {
      heads = table 9 (λ k. decode_head b (head_at k));
      raw = table 9 (λ e. table 9 (λ k. decode_cell b (raw_at e k)));
      checked = table 9 (λ e. table 9 (λ k. decode_cell b (checked_at e k)));
    }

unfoldable pub encode_sheet : List (List Cell) → List ℕ
encode_sheet s = pieces 81 (λ j. encode_cell (slot (column s (cell_element j)) (cell_slot j)))

unfoldable pub encode_block : Block → List ℕ
encode_block b = pieces 9 (λ k. encode_head (head_of b k)) ++ (encode_sheet b.raw ++ encode_sheet b.checked)

-- ---- the store
-- the bytes of the block of the station at index i of n
abbrev pub block_bytes : List ℕ → ℕ → ℕ → List ℕ
block_bytes s n i = take block_length (drop (block_at n i) s)

unfoldable pub decode_station : List ℕ → ℕ → ℕ → Station
decode_station s n i =
    record {
      number = long s (entry_at i);
      row = word s (entry_at i + row_in);
      settled = word s (entry_at i + settled_in);
      block = decode_block (block_bytes s n i);
    }

unfoldable pub decode : List ℕ → Store
decode s =
    record {
      year = word s year_at;
      month = word s month_at;
      day = word s day_at;
      stations = table (word s count_at) (decode_station s (word s count_at));
    }

unfoldable pub encode_entry : Station → List ℕ
encode_entry t = long_bytes t.number ++ (word_bytes t.row ++ word_bytes t.settled)

unfoldable pub encode_header : Store → List ℕ
encode_header m =
    word_bytes (length m.stations)
    ++ (word_bytes header_length
    ++ (word_bytes (block_at (length m.stations) 0)
    ++ (word_bytes block_length ++ (word_bytes m.year ++ (word_bytes m.month ++ (word_bytes m.day ++ word_bytes 0))))))

unfoldable pub encode : Store → List ℕ
encode m =
    encode_header m
    ++ (pieces (length m.stations) (λ i. encode_entry (station_at m.stations i))
    ++ pieces (length m.stations) (λ i. encode_block (station_at m.stations i).block))
