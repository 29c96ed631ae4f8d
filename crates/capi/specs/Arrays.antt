-- A day line as arrays of numbers: what the call day writes into the caller's arrays.
-- Assumes nothing.
use Rattle.std.specs.Prelude.{List, [], ◌∷◌, ◌<◌, ℕ, ℤ, pos, negsuc, Float, Option, None, Some}
use Rattle.std.specs.Float.{binary64}
use Rattle.std.specs.Float.Ieee.{of_bits}
use Rattle.daily.specs.Coded.{mean_of}
use Rattle.daily.specs.Line as Line
use Rattle.daily.specs.declared.Mean.{Mean}
use Rattle.daily.specs.declared.DayLine.{DayLine}

-- the code's day line that says the paper's
abbrev pub line_of : Line.DayLine → DayLine
line_of d = record {
  temperature = mean_of d.temperature;
  dew_point = mean_of d.dew_point;
  pressure = mean_of d.pressure;
  wind = mean_of d.wind;
  cloud = mean_of d.cloud;
  vapour = mean_of d.vapour;
  rain = d.rain;
  warmest = d.warmest;
  coldest = d.coldest;
  read = d.read;
  corrected = d.corrected;
  filled = d.filled;
  missing = d.missing;
}

-- a mean's float, 0.0 where it is absent
abbrev pub float : Mean → Float
float Mean.Absent = of_bits binary64 0
float (Mean.Read x) = x
float (Mean.Mended x) = x

-- a mean's kind: 0 absent, 1 read, 2 mended
abbrev pub kind : Mean → ℤ
kind Mean.Absent = pos 0
kind (Mean.Read x) = pos 1
kind (Mean.Mended x) = pos 2

-- whether there is a rain, and the rain, 0 where there is none
abbrev pub present : Option ℤ → ℤ
present None = pos 0
present (Some z) = pos 1

abbrev pub tenths : Option ℤ → ℤ
tenths None = pos 0
tenths (Some z) = z

-- a slot, −1 where it is absent
abbrev pub slot_number : Option ℕ → ℤ
slot_number None = negsuc 0
slot_number (Some k) = pos k

-- the means' floats: T, D, P, W, C, vapour
unfoldable pub floats : DayLine → List Float
floats l = float l.temperature ∷ float l.dew_point ∷ float l.pressure ∷ float l.wind ∷ float l.cloud ∷ float l.vapour ∷ []

-- the means' kinds in the same order; the rain; the warmest and the coldest slot; how many cells are read, corrected, filled, missing
unfoldable pub numbers : DayLine → List ℤ
numbers l =
    kind l.temperature ∷ kind l.dew_point ∷ kind l.pressure ∷ kind l.wind ∷ kind l.cloud ∷ kind l.vapour
    ∷ present l.rain ∷ tenths l.rain ∷ slot_number l.warmest ∷ slot_number l.coldest
    ∷ pos l.read ∷ pos l.corrected ∷ pos l.filled ∷ pos l.missing ∷ []

-- ---- what the functions are given
-- one of the slots 0 to 7, if any
abbrev pub Near : Option ℕ → Type 0
Near None = Unit {0}
Near (Some k) = k < 8

-- counts of at most 81 cells, and slots
pub record Small (l : DayLine) : Type 0 where
  pub warmest : Near l.warmest
  pub coldest : Near l.coldest
  pub read : l.read < 82
  pub corrected : l.corrected < 82
  pub filled : l.filled < 82
  pub missing : l.missing < 82
