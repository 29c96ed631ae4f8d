-- What is printed of a station: it is settled, and its day line goes into the text. Assumes nothing.
use Rattle.std.specs.Prelude.{◌≡◌, List, [], ℕ}
use Rattle.dayline_text.specs.Printed.{station_text}
use Rattle.rules.specs.Calls.{Answer, on_day, settle, day}
use Rattle.rules.specs.Step.{step}

abbrev pub settled : ℕ → List ℕ → List ℕ
settled station s = (step (settle station) s).store

-- nothing where there is no day line
abbrev pub line_of : ℕ → Answer → List ℕ
line_of station a = on_day (λ d. station_text station d.rain d.warmest d.coldest d.read d.corrected d.filled d.missing) [] a

-- the store after the station's line was made, and the line
pub record Printed (station : ℕ) (s t text : List ℕ) : Type 0 where
  pub left : t ≡ settled station s
  pub shows : text ≡ line_of station (step (day station) (settled station s)).answer
