-- The code tables: what a number in a group stands for, by document 01, "Values", and the head's iR and dd by "The store". A
-- name ends in Of, since the number is that of certain digits; a sign, iw and PPPP's first digit are characters.
-- Assumes nothing.
use Rattle.std.specs.Prelude.{cond, ◌&&◌, ◌||◌, ℕ, ◌+◌, ◌-◌, ◌*◌, ◌/◌, leb, eqb, pos, neg_ℤ}
use Rattle.synop_values.specs.Value.{Value, missing, read, humidity}

-- the character of the digit d
abbrev pub char : ℕ → ℕ
char d = 48 + d

-- T, D, X, M: "sign 0 or 1 (1 negative), then tenths of °C. Another sign: missing."
unfoldable pub temperature_of : ℕ → ℕ → Value
temperature_of sign n = cond (eqb sign (char 0)) (read (pos n)) (cond (eqb sign (char 1)) (read (neg_ℤ (pos n))) missing)

-- S-2, 29UUU: "a humidity in percent (001 to 100) or nothing"
unfoldable pub humidity_of : ℕ → Value
humidity_of uuu = cond (leb 1 uuu && leb uuu 100) (humidity uuu) missing

-- group 2 of section 1: a humidity after 9, else D's sign
unfoldable pub moisture_of : ℕ → ℕ → Value
moisture_of sign n = cond (eqb sign (char 9)) (humidity_of n) (temperature_of sign n)

-- P: "4PPPP; PPPP beginning 0 adds 10000, beginning 9 stands as it is, else missing"
unfoldable pub pressure_of : ℕ → ℕ → Value
pressure_of first n = cond (eqb first (char 0)) (read (pos (10000 + n))) (cond (eqb first (char 9)) (read (pos n)) missing)

-- W, tenths of m/s: "iw 0 or 1, times 10; iw 3 or 4 (knots), floor((463k + 45) / 90)". Another iw, which check 4 refuses, reads nothing.
unfoldable pub wind_of : ℕ → ℕ → Value
wind_of iw k =
    cond (eqb iw (char 0) || eqb iw (char 1)) (read (pos (10 * k)))
    (cond (eqb iw (char 3) || eqb iw (char 4)) (read (pos ((463 * k + 45) / 90))) missing)

-- C: "N 0 to 8; 9 missing"
unfoldable pub cloud_of : ℕ → Value
cloud_of n = cond (leb n 8) (read (pos n)) missing

-- V, hundreds of metres: "00 to 50 VV; 51 to 55 missing; 56 to 80, 10(VV − 50); 81 to 88, 300 + 50(VV − 80); 89, 700; 90 to 99 missing"
unfoldable pub visibility_of : ℕ → Value
visibility_of vv =
    cond (leb vv 50) (read (pos vv))
    (cond (leb vv 55) missing
    (cond (leb vv 80) (read (pos (10 * (vv - 50))))
    (cond (leb vv 88) (read (pos (300 + 50 * (vv - 80))))
    (cond (eqb vv 89) (read (pos 700)) missing))))

-- R, tenths of mm: "000 missing; 001 to 989, 10 times RRR; 990, 0; 991 to 999, RRR − 990"
unfoldable pub rain_of : ℕ → Value
rain_of rrr =
    cond (eqb rrr 0) missing
    (cond (leb rrr 989) (read (pos (10 * rrr)))
    (cond (eqb rrr 990) (read (pos 0)) (read (pos (rrr - 990)))))

-- ---- a slot's head
-- "iR 0 to 4, else 5"
unfoldable pub rain_indicator_of : ℕ → ℕ
rain_indicator_of n = cond (leb n 4) n 5

-- "dd 0 to 36 or 99, else 100"
unfoldable pub wind_direction_of : ℕ → ℕ
wind_direction_of n = cond (leb n 36) n (cond (eqb n 99) 99 100)
