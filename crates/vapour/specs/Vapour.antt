-- Vapour pressure in hundredths of hPa at a dew point of t tenths of a degree Celsius: document 01, "The day line", second bullet,
-- sentence by sentence. On ℕ, a / b is floor(a / b).
-- Assumes nothing.
use Rattle.std.specs.Prelude.{◌≡◌, Bool, ◌&&◌, cond, List, ℕ, zero, suc, ◌+◌, ◌*◌, ◌/◌, ◌<◌, ℤ, pos, negsuc, neg_ℤ, nat_abs, ◌+ℤ◌, length, get_or, Option, None, Some}
use Rattle.std.proofs.Math.IntN.{sub_ℕ}
use Rattle.std.specs.Int.Signed.{le_z}

-- "S = 10^8"
abbrev pub S : ℕ
S = 100000000

-- "q = floor(1767·|t|·S / (100(t + 2435)))"; t + 2435 is above 0 at every t of the table, so it is its own absolute value
abbrev pub q : ℤ → ℕ
q t = 1767 * nat_abs t * S / (100 * nat_abs (t +ℤ pos 2435))

-- "term 0 is S, term k is floor(term(k−1)·q / (S·k))"
unfoldable pub term : ℕ → ℕ → ℕ
term q zero = S
term q (suc k) = term q k * q / (S * suc k)

-- f 0 + f 1 + .. + f n
unfoldable pub sum_to : (ℕ → ℕ) → ℕ → ℕ
sum_to f zero = f zero
sum_to f (suc n) = sum_to f n + f (suc n)

-- "Z is the sum of terms 0 to 30"
unfoldable pub Z : ℤ → ℕ
Z t = sum_to (term (q t)) 30

-- "Entry: t ≥ 0, floor((1224Z + S) / (2S)); t < 0, floor((1224S + Z) / (2Z))"; `negsuc n` is −(n + 1)
unfoldable pub entry : ℤ → ℕ
entry (pos n) = (1224 * Z (pos n) + S) / (2 * S)
entry (negsuc n) = (1224 * S + Z (negsuc n)) / (2 * Z (negsuc n))

-- "a table of 1001 entries"
abbrev pub places : ℕ
places = 1001

-- "dew point t = −500 to 500 tenths": the list is that table, the entry at t = index − 500
pub record Entries (xs : List ℕ) : Type 0 where
  pub long : length xs ≡ places
  pub each : (i : ℕ) → i < places → get_or xs i 0 ≡ entry (sub_ℕ i 500)

-- "dew point t = −500 to 500 tenths"
abbrev pub in_table : ℤ → Bool
in_table t = le_z (neg_ℤ (pos 500)) t && le_z t (pos 500)

-- "(outside: missing)"; missing means that there is no value
unfoldable pub pressure : ℤ → Option ℕ
pressure t = cond (in_table t) (Some (entry t)) None
