-- Numbers as bytes: big-endian words and longs, and signed values in two's complement.
--     word_of_bytes, long_of_bytes      what is read from a number's bytes is the number
--     bytes_word, bytes_long      the bytes of what is read are the bytes
--     signed_unsigned, unsigned_signed      two's complement there and back
-- Assumes nothing.
use mathlib.Core.Path.{◌≡◌, sym, ◌∙◌, ap}
use mathlib.Core.Bool.{not, ◌&&◌}
use mathlib.Core.List.{List, [], ◌∷◌}
use Prim.Native.Nat.{ℕ, suc, ◌+◌, ◌*◌, ◌-◌, ◌/◌, ◌%◌, ◌<◌, ◌≤◌}
use native.Mathlib.Decide.{ℕ_discrete}
use native.Mathlib.Omega.{arith}
use borrow.Author.Tests.{lt-ltb, le-ltb, le-leb, lt-leb, ne_eqb}
use mathlib.Core.Logic.{◌⊎◌, inl, inr}
use lib.Dec.{leb, eqb}
use lib.IntN.{ℤ, pos, negsuc, nat_abs}
use Rattle.laws.proofs.Bools.{cond_true, cond_false, and_false_right}
use Rattle.laws.proofs.Offset.{side}
use Rattle.quality.specs.Cell.{is_percent}
use Rattle.store_layout.specs.Layout.{word, long, word_bytes, long_bytes, signed, unsigned}
use Rattle.store_layout.specs.Framed.{Bytes}

-- a word read back
pub word_of_bytes : (w : ℕ) → word (word_bytes w) 0 ≡ w
word_of_bytes w = omega arith

pub long_of_bytes : (w : ℕ) → long (long_bytes w) 0 ≡ w
long_of_bytes w = omega arith

-- two bytes, from the word that they make
pub bytes_word : (a b : ℕ) → a < 256 → b < 256 → word_bytes (256 * a + b) ≡ a ∷ b ∷ []
bytes_word a b h k =
    let p : (256 * a + b) / 256 ≡ a = omega arith in
    let q : (256 * a + b) % 256 ≡ b = omega arith in
    rw (p, q)

-- four bytes, from the long that they make
pub bytes_long : (a b c d : ℕ) → a < 256 → b < 256 → c < 256 → d < 256
    → long_bytes (65536 * (256 * a + b) + (256 * c + d)) ≡ a ∷ b ∷ c ∷ d ∷ []
bytes_long a b c d ha hb hc hd =
    let p : (65536 * (256 * a + b) + (256 * c + d)) / 65536 ≡ 256 * a + b = omega arith in
    let q : (65536 * (256 * a + b) + (256 * c + d)) % 65536 ≡ 256 * c + d = omega arith in
    let r : (65536 * (256 * a + b) + (256 * c + d)) % 256 ≡ d = omega arith in
    let e : (256 * a + b) / 256 ≡ a = omega arith in
    let f : (256 * a + b) % 256 ≡ b = omega arith in
    let g : (256 * c + d) / 256 ≡ c = omega arith in
    rw (p, q, r, e, f, g)

-- the bytes of a word are bytes
pub word_high : (w : ℕ) → w < 65536 → w / 256 < 256
word_high w h = omega arith

pub word_low : (w : ℕ) → w % 256 < 256
word_low w = omega arith

pub word_below : (s : List ℕ) → Bytes s → (i : ℕ) → word s i < 65536
word_below s b i = omega (arith, b.each i, b.each (i + 1))

-- ---- two's complement
pub signed_low : (w : ℕ) → w < 32768 → signed w ≡ pos w
signed_low w h = cond_true _ _ _ (lt-ltb w 32768 h)

pub signed_high : (w : ℕ) → 32768 ≤ w → signed w ≡ negsuc (65535 - w)
signed_high w h = cond_false _ _ _ (le-ltb w 32768 h)

pub unsigned_below : (z : ℤ) → nat_abs z ≤ 32768 → unsigned z < 65536
unsigned_below (pos n) h = omega arith
unsigned_below (negsuc n) h = omega arith

pub signed_unsigned : (z : ℤ) → nat_abs z ≤ 32767 → signed (unsigned z) ≡ z
signed_unsigned (pos n) h = signed_low n (omega arith)
signed_unsigned (negsuc n) h = signed_high (65535 - n) (omega arith) ∙ ap negsuc (omega arith)

pub unsigned_signed : (w : ℕ) → w < 65536 → unsigned (signed w) ≡ w
unsigned_signed w h = go (side w 32768)
  where
    go : (w < 32768) ⊎ (32768 ≤ w) → unsigned (signed w) ≡ w
    go (inl l) = rw (signed_low w l)
    go (inr l) = rw (signed_high w l) (omega arith)

-- how the code tests a value by its word: 32768 alone stands for one outside −32767 to 32767, and 0 for 0
pub size_test : (w : ℕ) → w < 65536 → leb (nat_abs (signed w)) 32767 ≡ not (eqb w 32768)
size_test w h = go (side w 32768) (ℕ_discrete w 32768)
  where
    go : (w < 32768) ⊎ (32768 ≤ w) → Dec (w ≡ 32768) → leb (nat_abs (signed w)) 32767 ≡ not (eqb w 32768)
    go (inl l) d = rw (signed_low w l, ne_eqb w 32768 (λ e. omega arith)) (le-leb w 32767 (omega arith))
    go (inr l) (yes e) = rw e
    go (inr l) (no n) = rw (signed_high w l, ne_eqb w 32768 n) (le-leb (suc (65535 - w)) 32767 (omega (arith, n)))

pub zero_test : (w : ℕ) → w < 65536 → eqb (nat_abs (signed w)) 0 ≡ eqb w 0
zero_test w h = go (side w 32768)
  where
    go : (w < 32768) ⊎ (32768 ≤ w) → eqb (nat_abs (signed w)) 0 ≡ eqb w 0
    go (inl l) = rw (signed_low w l)
    go (inr l) = rw (signed_high w l, ne_eqb w 0 (λ e. omega arith)) (ne_eqb (suc (65535 - w)) 0 (λ e. omega arith))

-- 1 to 100, as a word
pub percent_test : (w : ℕ) → w < 65536 → is_percent (signed w) ≡ (leb 1 w && leb w 100)
percent_test w h = go (side w 32768)
  where
    go : (w < 32768) ⊎ (32768 ≤ w) → is_percent (signed w) ≡ (leb 1 w && leb w 100)
    go (inl l) = rw (signed_low w l)
    go (inr l) = rw (signed_high w l) (sym (and_false_right (leb 1 w) (leb w 100) (lt-leb w 100 (omega arith))))
