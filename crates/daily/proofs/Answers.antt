-- What follows from an answer of `day_line`.
--     number    the float of a mean is a number
--     same      two lines of code that say one line are equal
-- Assumes nothing.
use mathlib.Core.Path.{◌≡◌, sym, ◌∙◌, subst}
use mathlib.Core.Bool.{not}
use lib.Dec.{T}
use lib.IntN.{ℤ}
use lib.Ieee.{Float, nan, inf, fin, is_nan}
use Rattle.daily.specs.declared.Mean.{Mean}
use Rattle.daily.specs.declared.DayLine.{DayLine}
use Rattle.daily.specs.Means.{Average, absent, read, mended}
use Rattle.daily.specs.Line as Line
use Rattle.daily.specs.Coded.{eighth, mean_of, IsEighth, IsNumber, Exact, SaysMean, Says}

-- what has a value is a number
valued : (x : Float) (s : ℤ) → IsEighth x s → T (not (is_nan x))
unfolding is_nan
valued nan s v = absurd v
valued (inf t) s v = absurd v
valued (fin t m e) s v = tt

exact_number : (a : Average) → Exact a → IsNumber (mean_of a)
exact_number absent v = tt
exact_number (read s) v = valued (eighth s) s v
exact_number (mended s) v = valued (eighth s) s v

pub number : {r : Mean} {a : Average} → SaysMean r a → IsNumber r
number {r} {a} h = subst IsNumber (sym h.rule) (exact_number a h.exact)

module _ {r t : DayLine} {l : Line.DayLine} (p : Says r l) (q : Says t l) where
  mean : {x y : Mean} {a : Average} → SaysMean x a → SaysMean y a → x ≡ y
  mean h g = h.rule ∙ sym g.rule

  pub same : r ≡ t
  same = λ i.
      record {
        temperature = mean p.temperature q.temperature i;
        dew_point = mean p.dew_point q.dew_point i;
        pressure = mean p.pressure q.pressure i;
        wind = mean p.wind q.wind i;
        cloud = mean p.cloud q.cloud i;
        vapour = mean p.vapour q.vapour i;
        rain = (p.rain ∙ sym q.rain) i;
        warmest = (p.warmest ∙ sym q.warmest) i;
        coldest = (p.coldest ∙ sym q.coldest) i;
        read = (p.read ∙ sym q.read) i;
        corrected = (p.corrected ∙ sym q.corrected) i;
        filled = (p.filled ∙ sym q.filled) i;
        missing = (p.missing ∙ sym q.missing) i;
      }
