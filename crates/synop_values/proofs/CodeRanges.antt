-- What callers need of the code tables: each value fits a cell, and each of a head's numbers its range.
-- Assumes nothing.
use mathlib.Core.Path.{◌≡◌, refl}
use mathlib.Core.Bool.{◌&&◌, ◌||◌}
use mathlib.Core.Logic.{◌⊎◌, inl, inr}
use Prim.Native.Nat.{ℕ, zero, suc, ◌<◌, ◌≤◌}
use native.Mathlib.Omega.{arith}
use lib.Dec.{leb, eqb, lit≤}
use lib.IntN.{pos, neg_ℤ}
use borrow.Author.Tests.{leb-true}
use Rattle.laws.proofs.Bools.{both, by_cond}
use Rattle.synop_values.specs.Value.{read, dew_point, Within}
use Rattle.synop_values.specs.Tables.{char, temperature_of, humidity_of, moisture_of, pressure_of, wind_of, cloud_of, visibility_of, rain_of, rain_indicator_of, wind_direction_of}

-- ---- each element's value fits a cell
negative_within : (e n : ℕ) → n ≤ 32767 → Within e (read (neg_ℤ (pos n)))
negative_within e zero h = h
negative_within e (suc n) h = h

pub temperature_of_within : (e sign n : ℕ) → n < 1000 → Within e (temperature_of sign n)
unfolding temperature_of
temperature_of_within e sign n h =
    by_cond (Within e) (eqb sign (char 0)) (λ _. omega arith)
    (λ _. by_cond (Within e) (eqb sign (char 1)) (λ _. negative_within e n (omega arith)) (λ _. tt))

-- D's cell may hold what group 2 gives
pub moisture_of_within : (sign n : ℕ) → n < 1000 → Within dew_point (moisture_of sign n)
unfolding moisture_of humidity_of
moisture_of_within sign n h =
    by_cond (Within dew_point) (eqb sign (char 9))
    (λ _. by_cond (Within dew_point) (leb 1 n && leb n 100) (λ e. let p = both e in (refl, leb-true 1 n p.0, leb-true n 100 p.1)) (λ _. tt))
    (λ _. temperature_of_within dew_point sign n h)

pub pressure_of_within : (e first n : ℕ) → n < 10000 → Within e (pressure_of first n)
unfolding pressure_of
pressure_of_within e first n h =
    by_cond (Within e) (eqb first (char 0)) (λ _. omega arith) (λ _. by_cond (Within e) (eqb first (char 9)) (λ _. omega arith) (λ _. tt))

pub wind_of_within : (e iw k : ℕ) → k < 1000 → Within e (wind_of iw k)
unfolding wind_of
wind_of_within e iw k h =
    by_cond (Within e) (eqb iw (char 0) || eqb iw (char 1)) (λ _. omega arith)
    (λ _. by_cond (Within e) (eqb iw (char 3) || eqb iw (char 4)) (λ _. omega arith) (λ _. tt))

pub cloud_of_within : (e n : ℕ) → n < 10 → Within e (cloud_of n)
unfolding cloud_of
cloud_of_within e n h = by_cond (Within e) (leb n 8) (λ _. omega arith) (λ _. tt)

pub visibility_of_within : (e vv : ℕ) → vv < 100 → Within e (visibility_of vv)
unfolding visibility_of
visibility_of_within e vv h =
    by_cond (Within e) (leb vv 50) (λ _. omega arith)
    (λ _. by_cond (Within e) (leb vv 55) (λ _. tt)
    (λ _. by_cond (Within e) (leb vv 80) (λ _. omega arith)
    (λ _. by_cond (Within e) (leb vv 88) (λ _. omega arith) (λ _. by_cond (Within e) (eqb vv 89) (λ _. lit≤ tt) (λ _. tt)))))

pub rain_of_within : (e rrr : ℕ) → rrr < 1000 → Within e (rain_of rrr)
unfolding rain_of
rain_of_within e rrr h =
    by_cond (Within e) (eqb rrr 0) (λ _. tt)
    (λ _. by_cond (Within e) (leb rrr 989) (λ _. omega arith) (λ _. by_cond (Within e) (eqb rrr 990) (λ _. lit≤ tt) (λ _. omega arith)))

-- ---- each of a head's numbers is in its range
-- iR 0 to 5
pub rain_indicator_of_range : (n : ℕ) → rain_indicator_of n ≤ 5
unfolding rain_indicator_of
rain_indicator_of_range n = by_cond (λ n. n ≤ 5) (leb n 4) (λ e. omega (arith, leb-true n 4 e)) (λ _. lit≤ tt)

-- dd 0 to 36, 99 or 100
abbrev pub Direction : ℕ → Type 0
Direction d = (d ≤ 36) ⊎ ((d ≡ 99) ⊎ (d ≡ 100))

pub wind_direction_of_range : (n : ℕ) → Direction (wind_direction_of n)
unfolding wind_direction_of
wind_direction_of_range n =
    by_cond Direction (leb n 36) (λ e. inl (leb-true n 36 e)) (λ _. by_cond Direction (eqb n 99) (λ _. inr (inl refl)) (λ _. inr (inr refl)))
