-- S-5 at work: the rain of days on which a station drops group 6 under iR 3 at 18 and at 06 UTC, the slots 4 and 8.
--     dry_days
-- Assumes nothing.
use mathlib.Core.Path.{◌≡◌, refl}
use mathlib.Core.Bool.{Bool, true, false}
use mathlib.Core.List.{[], ◌∷◌}
use Rattle.std.specs.Prelude.{Option, None, Some}
use Prim.Native.Nat.{ℕ}
use lib.IntN.{ℤ, pos}
use Rattle.laws.specs.Table.{table}
use Rattle.synop_values.specs.Value.{Value, missing, read}
use Rattle.quality.specs.Steps
use Rattle.quality.specs.Settled
use Rattle.daily.specs.Line
use Rattle.daily.specs.Line.{day_line}
use Rattle.daily.specs.Rain
use Rattle.store_layout.specs.Model.{Station}
use Rattle.store_layout.specs.Updates.{with_slot, with_checked, with_copies, with_block}
use Rattle.rules.specs.Rules
use Rattle.rules.specs.Rules.{filed, settled_station}
use Rattle.rules.proofs.Isolation.{new_station, date}

-- a report in slot k with iR, whether a group 6 was sent, tR and R, and nothing else
abbrev report : ℕ → ℕ → Bool → ℕ → Value → Station → Station
report k ir sent tr r =
    filed k 0 (record { rain_indicator = ir; rain_sent = sent; rain_duration = tr; wind_direction = 100 })
    (missing ∷ missing ∷ missing ∷ missing ∷ missing ∷ missing ∷ r ∷ missing ∷ missing ∷ [])

-- iR 3, and no group 6
abbrev dry : ℕ → Station → Station
dry k = report k 3 false 0 missing

abbrev new : Station
new = new_station 40001 0

-- the day's rain, in tenths of a millimetre
abbrev rain : Station → Option ℤ
rain t = let b = (settled_station (date 2024 4 11) t).block in (day_line b.heads b.checked).rain

pub record DryDays : Type 0 where
  -- "Its days come out without a total": now with one
  pub nothing : rain (dry 4 (dry 8 new)) ≡ Some (pos 0)
  -- "so that a shower reported at noon is not lost"; the same where 18 UTC sends its 0 as 69902
  pub shower : rain (report 2 1 true 1 (read (pos 30)) (dry 4 (dry 8 new))) ≡ Some (pos 30)
  pub sent : rain (report 2 1 true 1 (read (pos 30)) (report 4 3 true 2 (read (pos 0)) (dry 8 new))) ≡ Some (pos 30)
  -- an R of noon that the range step discards
  pub discarded : rain (report 2 1 true 1 (read (pos 9890)) (dry 4 (dry 8 new))) ≡ None
  -- "A group 6 that is present wins over iR, even if its value is missing"
  pub present : rain (report 4 3 true 0 missing (dry 8 new)) ≡ None
  -- "at other slots it stays missing": 21 UTC for 18, and tR is 0 there
  pub elsewhere : rain (dry 5 (dry 8 new)) ≡ None

pub dry_days : DryDays
unfolding table with_slot with_checked with_copies with_block
    Rules.filed Rules.copy_step Rules.step_done Rules.settled_station
    Steps.range_cell Steps.dew_cell Steps.wind_cell Steps.maximum_below_minimum Steps.spike_cell Steps.time_cell Steps.fill_cell Steps.between Steps.range_column Steps.dew_column Steps.wind_column Steps.suspect_at
    Settled.range Settled.internal Settled.time_of Settled.time Settled.fill_of Settled.fill Line.day_line Rain.half Rain.rain_total
dry_days = record { nothing = refl; shower = refl; sent = refl; discarded = refl; present = refl; elsewhere = refl }
