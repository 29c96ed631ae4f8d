-- What the code's answers say, in the paper's terms: which case of a mean stands for what; and for the whole day line.
-- Assumes nothing.
use Rattle.std.specs.Prelude.{◌≡◌, Bool, true, false, not, T, ℤ, pos, negsuc, nat_abs, Float}
use Rattle.std.specs.Float.{binary64}
use Rattle.std.specs.Float.Ieee.{mul, of_int, of_bits, is_nan}
use Rattle.std.specs.Float.Ieee.Exact.{HasValue}
use Rattle.daily.specs.declared.Mean.{Mean}
use Rattle.daily.specs.declared.Mean.TheVariants.{Absent, Read, Mended}
use Rattle.daily.specs.declared.DayLine.{DayLine}
use Rattle.daily.specs.Means.{Average, absent, read, mended}
use Rattle.daily.specs.Line as Line

-- "the eightfold sum times 0.125"; 0.125 by its bits, an exponent of −3
abbrev pub eighth : ℤ → Float
eighth sum = mul binary64 (of_int binary64 sum) (of_bits binary64 0x3fc0000000000000)

-- the mean that the code answers
abbrev pub mean_of : Average → Mean
mean_of absent = Absent
mean_of (read s) = Read (eighth s)
mean_of (mended s) = Mended (eighth s)

-- below 0
abbrev pub negative : ℤ → Bool
negative (pos n) = false
negative (negsuc n) = true

-- x is finite, has the sign of s, and is |s| / 8 in size
abbrev pub IsEighth : Float → ℤ → Type 0
IsEighth x s = HasValue x (negative s) (nat_abs s) 8

-- ".. times 0.125, which is exact": no rounding, the float is the sum divided by 8
abbrev pub Exact : Average → Type 0
Exact absent = Unit {0}
Exact (read s) = IsEighth (eighth s) s
Exact (mended s) = IsEighth (eighth s) s

-- the code's mean r says the mean a, and exactly
pub record SaysMean (r : Mean) (a : Average) : Type 0 where
  pub rule : r ≡ mean_of a
  pub exact : Exact a

-- the float, where there is one, is a number: its bits are defined
abbrev pub IsNumber : Mean → Type 0
IsNumber Absent = Unit {0}
IsNumber (Read x) = T (not (is_nan x))
IsNumber (Mended x) = T (not (is_nan x))

-- the code's day line r says the day line l
pub record Says (r : DayLine) (l : Line.DayLine) : Type 0 where
  pub temperature : SaysMean r.temperature l.temperature
  pub dew_point : SaysMean r.dew_point l.dew_point
  pub pressure : SaysMean r.pressure l.pressure
  pub wind : SaysMean r.wind l.wind
  pub cloud : SaysMean r.cloud l.cloud
  pub vapour : SaysMean r.vapour l.vapour
  pub rain : r.rain ≡ l.rain
  pub warmest : r.warmest ≡ l.warmest
  pub coldest : r.coldest ≡ l.coldest
  pub read : r.read ≡ l.read
  pub corrected : r.corrected ≡ l.corrected
  pub filled : r.filled ≡ l.filled
  pub missing : r.missing ≡ l.missing
