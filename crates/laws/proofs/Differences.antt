-- The difference i − c of two naturals as a whole number, `sub_ℕ i c`: order, shift, sign, size and sum.
-- Assumes nothing.
use mathlib.Core.Path.{◌≡◌, sym}
use Prim.Native.Nat.{ℕ, zero, suc, ◌+◌, ◌-◌, ◌≤◌, ◌<◌}
use native.Mathlib.Omega.{arith}
use borrow.Author.Tests.{ltb-true, ltb-false, leb-true, leb-false, lt-ltb, le-ltb, le-leb, lt-leb}
use lib.Dec.{ltb, leb}
use lib.IntN.{pos, negsuc, neg_ℤ, nat_abs, sub_ℕ, ◌+ℤ◌}
use lib.Signed.{le_z}
use Rattle.laws.proofs.Bools.{Known, is_true, is_false, known}

-- two tests with the same answers
leb_same : (x y a b : ℕ) → (a ≤ b → x ≤ y) → (b < a → y < x) → leb x y ≡ leb a b
leb_same x y a b f g = go (known (leb a b))
  where
    go : Known (leb a b) → leb x y ≡ leb a b
    go (is_true e) = rw e (le-leb x y (f (leb-true a b e)))
    go (is_false e) = rw e (lt-leb x y (g (leb-false a b e)))

-- a − c and b − c are in the order of a and b
pub order : (c a b : ℕ) → le_z (sub_ℕ a c) (sub_ℕ b c) ≡ leb a b
order c a b = go (known (ltb a c)) (known (ltb b c))
  where
    go : Known (ltb a c) → Known (ltb b c) → le_z (sub_ℕ a c) (sub_ℕ b c) ≡ leb a b
    go (is_true e) (is_true h) =
        rw (e, h) (leb_same (c - suc b) (c - suc a) a b (omega (arith, ltb-true b c h)) (omega (arith, ltb-true a c e)))
    go (is_true e) (is_false h) = rw (e, h) (sym (le-leb a b (omega (arith, ltb-true a c e, ltb-false b c h))))
    go (is_false e) (is_true h) = rw (e, h) (sym (lt-leb a b (omega (arith, ltb-false a c e, ltb-true b c h))))
    go (is_false e) (is_false h) =
        rw (e, h) (leb_same (a - c) (b - c) a b (omega (arith, ltb-false a c e)) (omega (arith, ltb-false b c h)))

-- (d + i) − (d + c) is i − c
pub shift : (d i c : ℕ) → sub_ℕ (d + i) (d + c) ≡ sub_ℕ i c
shift d i c = go (known (ltb i c))
  where
    go : Known (ltb i c) → sub_ℕ (d + i) (d + c) ≡ sub_ℕ i c
    go (is_true e) =
        let l : i < c = ltb-true i c e in
        let m : d + c - suc (d + i) ≡ c - suc i = omega arith in
        rw (e, lt-ltb (d + i) (d + c) (omega arith), m)
    go (is_false e) =
        let l : c ≤ i = ltb-false i c e in
        let m : d + i - (d + c) ≡ i - c = omega arith in
        rw (e, le-ltb (d + i) (d + c) (omega arith), m)

-- which difference is n, and which −(n + 1)
pub from_zero : (c n : ℕ) → sub_ℕ (c + n) c ≡ pos n
from_zero c n =
    let m : c + n - c ≡ n = omega arith in
    rw (le-ltb (c + n) c (omega arith), m)

pub below_zero : (c n : ℕ) → n < c → sub_ℕ (c - suc n) c ≡ negsuc n
below_zero c n h =
    let m : c - suc (c - suc n) ≡ n = omega arith in
    rw (lt-ltb (c - suc n) c (omega arith), m)

-- and which −n
pub opposite : (c n : ℕ) → n ≤ c → sub_ℕ (c - n) c ≡ neg_ℤ (pos n)
opposite c zero h = let m : c - 0 ≡ c + 0 = omega arith in rw m (from_zero c 0)
opposite c (suc n) h = below_zero c n h

-- |i − c|
pub size_below : (c i : ℕ) → i < c → c - i ≡ nat_abs (sub_ℕ i c)
size_below c i h = rw (lt-ltb i c) (omega arith)

pub size_above : (c i : ℕ) → c ≤ i → i - c ≡ nat_abs (sub_ℕ i c)
size_above c i h = rw (le-ltb i c)

-- (i − c) + (c + d) is i + d
pub plus : (c d i : ℕ) → sub_ℕ i c +ℤ pos (c + d) ≡ pos (i + d)
plus c d i = go (known (ltb i c))
  where
    go : Known (ltb i c) → sub_ℕ i c +ℤ pos (c + d) ≡ pos (i + d)
    go (is_true e) =
        let l : i < c = ltb-true i c e in
        let m : c + d - suc (c - suc i) ≡ i + d = omega arith in
        rw (e, le-ltb (c + d) (suc (c - suc i)) (omega arith), m)
    go (is_false e) =
        let l : c ≤ i = ltb-false i c e in
        let m : i - c + (c + d) ≡ i + d = omega arith in
        rw (e, m)
