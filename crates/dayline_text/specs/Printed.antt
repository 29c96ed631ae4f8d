-- What `dayline` prints: "per station: number (five digits), rain, warmest, coldest, the four counts (`-` absent); last, the refused
-- reports". Assumes nothing.
use Rattle.std.specs.Prelude.{ℕ, ℤ, List, [], ◌∷◌, ◌++◌, Option, None, Some}
use Rattle.daily.specs.declared.DayLine.{DayLine}
use Rattle.texts.specs.Numbers.{five_digits, decimal, signed, field}

-- a number as it is printed, or `-` where it is absent
abbrev pub or_dash : {A : Type 0} → (A → List ℕ) → Option A → List ℕ
or_dash print None = 45 ∷ []
or_dash print (Some n) = print n

-- the day's rain in tenths of a millimetre
abbrev pub rain : Option ℤ → List ℕ
rain r = or_dash signed r

-- the warmest or the coldest slot
abbrev pub slot : Option ℕ → List ℕ
slot e = or_dash decimal e

abbrev pub measured : Option ℤ → Option ℕ → Option ℕ → List ℕ
measured total warmest coldest = field (rain total) ++ (field (slot warmest) ++ field (slot coldest))

-- of cells read, corrected, filled and missing
abbrev pub counts : ℕ → ℕ → ℕ → ℕ → List ℕ
counts a b c d = field (decimal a) ++ (field (decimal b) ++ (field (decimal c) ++ field (decimal d)))

-- a station's line, as `40001 - 0 0 7 0 0 74`
unfoldable pub station_text : ℕ → Option ℤ → Option ℕ → Option ℕ → ℕ → ℕ → ℕ → ℕ → List ℕ
station_text station total warmest coldest a b c d = five_digits station ++ (measured total warmest coldest ++ (counts a b c d ++ 10 ∷ []))

abbrev pub day_text : ℕ → DayLine → List ℕ
day_text station d = station_text station d.rain d.warmest d.coldest d.read d.corrected d.filled d.missing

-- the last line, as `refused 0`
unfoldable pub refused_text : ℕ → List ℕ
refused_text n = 114 ∷ 101 ∷ 102 ∷ 117 ∷ 115 ∷ 101 ∷ 100 ∷ (field (decimal n) ++ 10 ∷ [])
