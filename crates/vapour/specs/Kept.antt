-- Document 02, S-4: the two constants that the table is kept in.
-- Assumes nothing.
use Rattle.std.specs.Prelude.{◌≡◌, List, ℕ, ◌+◌, ◌-◌, ◌/◌, ◌%◌, ◌<◌, length, get_or}
use Rattle.std.proofs.Math.IntN.{sub_ℕ}
use Rattle.vapour.specs.Vapour.{places, entry}

-- "every sixteen places"
abbrev pub spacing : ℕ
spacing = 16

-- "Keep a whole entry every sixteen places and, between these, the one-byte difference of each entry from the one before it."
pub record Kept (whole differences : List ℕ) : Type 0 where
  -- whole entries at t = −500, −484, .., 492, and as many differences as there are other places
  pub wholes : length whole ≡ 63
  pub others : length whole + length differences ≡ places
  pub each : (i : ℕ) → i < places → i % spacing ≡ 0 → get_or whole (i / spacing) 0 ≡ entry (sub_ℕ i 500)
  pub step : (i : ℕ) → i + 1 < places → 0 < (i + 1) % spacing →
      entry (sub_ℕ i 500) + get_or differences (i - i / spacing) 0 ≡ entry (sub_ℕ (i + 1) 500)
