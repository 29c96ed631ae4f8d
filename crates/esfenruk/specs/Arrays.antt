-- What the calls cell and day write into the caller's arrays. A refusal leaves them as they are.
-- Assumes nothing.
use Rattle.std.specs.Prelude.{◌≡◌, List, [], ◌∷◌, ℕ, ℤ, pos, Float}
use Rattle.quality.specs.Cell.{Cell}
use Rattle.daily.specs.Coded.{Exact}
use Rattle.daily.specs.Line.{DayLine}
use Rattle.rules.specs.Calls.{Answer, on_cell, on_day}
use Rattle.capi.specs.Arrays.{line_of, floats, numbers}
use Rattle.capi.specs.Numbers.{number}

-- ---- cell
-- state, flag, value
abbrev pub three : Cell → List ℤ
three c = pos c.state ∷ pos c.flag ∷ c.value ∷ []

-- the array after a cell call, from the one before
abbrev pub cell_numbers : Answer → List ℤ → List ℤ
cell_numbers a old = on_cell three old a

-- ---- day
-- the arrays after a day call, from those before
abbrev pub day_floats : Answer → List Float → List Float
day_floats a old = on_day (λ d. floats (line_of d)) old a

abbrev pub day_numbers : Answer → List ℤ → List ℤ
day_numbers a old = on_day (λ d. numbers (line_of d)) old a

-- ".. the eightfold sum times 0.125, which is exact": of each mean that is there
pub record ExactMeans (d : DayLine) : Type 0 where
  pub temperature : Exact d.temperature
  pub dew_point : Exact d.dew_point
  pub pressure : Exact d.pressure
  pub wind : Exact d.wind
  pub cloud : Exact d.cloud
  pub vapour : Exact d.vapour

-- a day call returned r and left the floats x and the numbers y, which were xs and ys before, as the answer a says
pub record DayReturned (a : Answer) (xs : List Float) (ys : List ℤ) (r : ℕ) (x : List Float) (y : List ℤ) : Type 0 where
  pub number : r ≡ number a
  pub floats : x ≡ day_floats a xs
  pub exact : on_day ExactMeans (Unit {0}) a
  pub numbers : y ≡ day_numbers a ys
