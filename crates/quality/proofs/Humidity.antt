-- The value of a humidity in a valid cell: 1 to 100 percent.
--     humidity                           all that is known of it
--     humidity_least, humidity_most      at least 1, and at most 100
-- Assumes nothing.
use mathlib.Core.Path.{◌≡◌, refl, sym}
use mathlib.Core.Bool.{true, true≢false, ◌&&◌}
use Prim.Native.Nat.{ℕ, ◌≤◌}
use native.Mathlib.Omega.{arith}
use borrow.Author.Tests.{leb-true, eqb-true, lt-leb}
use lib.Dec.{eqb}
use lib.IntN.{ℤ, pos, negsuc, nat_abs}
use lib.Signed.{le_z}
use Rattle.laws.proofs.Bools.{and_left, and_right, or_second}
use Rattle.quality.specs.Cell.{Cell, is_percent, is_humidity}
use Rattle.quality.specs.Elements.{dew_point}
use Rattle.quality.specs.Valid.{ValidCell}
use Rattle.quality.proofs.Validity.{cell_parts}

pub record Percent (z : ℤ) : Type 0 where
  pub itself : z ≡ pos (nat_abs z)
  pub least : 1 ≤ nat_abs z
  pub most : nat_abs z ≤ 100

pub percent : (z : ℤ) → is_percent z ≡ true → Percent z
percent (pos n) h =
    let l : 1 ≤ n = leb-true 1 n (and_left (le_z (pos 1) (pos n)) (le_z (pos n) (pos 100)) h) in
    let m : n ≤ 100 = leb-true n 100 (and_right (le_z (pos 1) (pos n)) (le_z (pos n) (pos 100)) h) in
    record { itself = refl; least = l; most = m }
percent (negsuc n) h = absurd (true≢false (sym h))

in_percent : (e : ℕ) (c : Cell) → ValidCell e c → is_humidity c ≡ true → is_percent c.value ≡ true
in_percent e c w h =
    and_right (eqb e dew_point && is_humidity c) (is_percent c.value) (or_second (lt-leb c.state 3 (omega (arith, eqb-true c.state 4 h))) (cell_parts w).state)

pub humidity : (e : ℕ) (c : Cell) → ValidCell e c → is_humidity c ≡ true → Percent c.value
humidity e c w h = percent c.value (in_percent e c w h)

module _ (e : ℕ) (c : Cell) (w : ValidCell e c) (h : is_humidity c ≡ true) where
  pub humidity_least : le_z (pos 1) c.value ≡ true
  humidity_least = and_left (le_z (pos 1) c.value) (le_z c.value (pos 100)) (in_percent e c w h)

  pub humidity_most : nat_abs c.value ≤ 100
  humidity_most = (humidity e c w h).most
