-- Lists whose numbers are bytes.
--     bytes_append, bytes_part, bytes_pieces, bytes_set, bytes_sets      lists made of such lists
--     bytes_of_word, bytes_of_long      the bytes of a number that fits
-- Assumes nothing.
use mathlib.Core.List.{List, [], ◌∷◌, ◌++◌}
use Prim.Native.Nat.{ℕ, zero, suc, ◌/◌, ◌<◌}
use native.Mathlib.Omega.{arith}
use lib.ListN.{take, drop, set}
use lib.Seq.{sets}
use Rattle.store_layout.specs.Layout.{byte, word_bytes, long_bytes, pieces}
use Rattle.store_layout.specs.Framed.{Bytes}
use Rattle.store_layout.proofs.Numbers.{word_high, word_low}

pub bytes_none : Bytes []
bytes_none = record { each = λ k. omega arith }

pub bytes_more : {x : ℕ} {s : List ℕ} → x < 256 → Bytes s → Bytes (x ∷ s)
bytes_more {x} {s} h b = record { each = at }
  where
    at : (k : ℕ) → byte (x ∷ s) k < 256
    at zero = h
    at (suc k) = b.each k

-- the first one, and the others
pub bytes_first : {x : ℕ} {s : List ℕ} → Bytes (x ∷ s) → x < 256
bytes_first b = b.each 0

pub bytes_rest : {x : ℕ} {s : List ℕ} → Bytes (x ∷ s) → Bytes s
bytes_rest b = record { each = λ k. b.each (suc k) }

pub bytes_append : {s t : List ℕ} → Bytes s → Bytes t → Bytes (s ++ t)
bytes_append {s = []} {t} a b = b
bytes_append {s = x ∷ s} {t} a b = bytes_more (bytes_first a) (bytes_append (bytes_rest a) b)

pub bytes_take : (n : ℕ) {s : List ℕ} → Bytes s → Bytes (take n s)
bytes_take zero {s} b = bytes_none
bytes_take (suc n) {s = []} b = bytes_none
bytes_take (suc n) {s = x ∷ s} b = bytes_more (bytes_first b) (bytes_take n (bytes_rest b))

pub bytes_drop : (n : ℕ) {s : List ℕ} → Bytes s → Bytes (drop n s)
bytes_drop zero {s} b = b
bytes_drop (suc n) {s = []} b = bytes_none
bytes_drop (suc n) {s = x ∷ s} b = bytes_drop n (bytes_rest b)

pub bytes_part : (n a : ℕ) {s : List ℕ} → Bytes s → Bytes (take n (drop a s))
bytes_part n a b = bytes_take n (bytes_drop a b)

pub bytes_pieces : (n : ℕ) (f : ℕ → List ℕ) → ((k : ℕ) → k < n → Bytes (f k)) → Bytes (pieces n f)
unfolding pieces
bytes_pieces zero f h = bytes_none
bytes_pieces (suc n) f h = bytes_append (h zero (omega arith)) (bytes_pieces n (λ k. f (suc k)) (λ k l. h (suc k) (omega arith)))

pub bytes_set : (i : ℕ) {s : List ℕ} {x : ℕ} → Bytes s → x < 256 → Bytes (set s i x)
bytes_set i {s = []} b h = b
bytes_set zero {s = y ∷ s} b h = bytes_more h (bytes_rest b)
bytes_set (suc i) {s = y ∷ s} b h = bytes_more (bytes_first b) (bytes_set i (bytes_rest b) h)

pub bytes_sets : (i : ℕ) {s vs : List ℕ} → Bytes s → Bytes vs → Bytes (sets s i vs)
bytes_sets i {s} {vs = []} b v = b
bytes_sets i {s} {vs = x ∷ vs} b v = bytes_sets (suc i) (bytes_set i b (bytes_first v)) (bytes_rest v)

-- a number that fits
pub bytes_of_word : (w : ℕ) → w < 65536 → Bytes (word_bytes w)
bytes_of_word w h = bytes_more (word_high w h) (bytes_more (word_low w) bytes_none)

pub bytes_of_long : (w : ℕ) → w < 4294967296 → Bytes (long_bytes w)
bytes_of_long w h =
    bytes_append {s = word_bytes (w / 65536)} (bytes_of_word (w / 65536) (omega arith))
    (bytes_more (omega arith) (bytes_more (word_low w) bytes_none))
