-- "Limits min2, min1, max1, max2", by element, climate row and season (document 01, "Settling a station", step 1).
-- Assumes nothing.
use Rattle.std.specs.Prelude.{Bool, true, false, cond, ◌&&◌, [], ◌∷◌, ℕ, eqb, leb, pos, neg_ℤ, get_or}
use Rattle.quality.specs.declared.limits.Limits as code
use Rattle.quality.specs.declared.limits.Climate.{Climate}
use Rattle.quality.specs.declared.limits.Climate.TheVariants.{Lowland, Hill}
use Rattle.quality.specs.declared.limits.Season.{Season}
use Rattle.quality.specs.declared.limits.Season.TheVariants.{Cold, Warm}

abbrev pub Limits : Type 0
Limits = code.Limits

-- "climate row (0 lowland, 1 hill)"
abbrev pub row_of : Climate → ℕ
row_of Lowland = 0
row_of Hill = 1

-- the code's season: "Warm is month 4 to 9 of D."
abbrev pub is_warm : Season → Bool
is_warm Cold = false
is_warm Warm = true

-- "Warm is month 4 to 9 of D."
abbrev pub warm : ℕ → Bool
warm month = leb 4 month && leb month 9

-- "T, X, M", by climate row (0 lowland, 1 hill) and season
abbrev pub temperature_limits : ℕ → Bool → Limits
temperature_limits row warm =
    cond (eqb row 0)
    (cond warm
    (record { min2 = neg_ℤ (pos 150); min1 = neg_ℤ (pos 50); max1 = pos 380; max2 = pos 480 })
    (record { min2 = neg_ℤ (pos 400); min1 = neg_ℤ (pos 250); max1 = pos 250; max2 = pos 350 }))
    (cond warm
    (record { min2 = neg_ℤ (pos 220); min1 = neg_ℤ (pos 120); max1 = pos 320; max2 = pos 420 })
    (record { min2 = neg_ℤ (pos 480); min1 = neg_ℤ (pos 320); max1 = pos 200; max2 = pos 300 }))

-- "D: the two lower limits of T, then 250, 320."
abbrev pub dew_point_limits : ℕ → Bool → Limits
dew_point_limits row warm =
    record {
      min2 = (temperature_limits row warm).min2;
      min1 = (temperature_limits row warm).min1;
      max1 = pos 250;
      max2 = pos 320;
    }

-- "P: 9200, 9500, 10500, 10800. W: 0, 0, 400, 750. R: 0, 0, 2000, 5000."
abbrev pub pressure_limits : Limits
pressure_limits = record { min2 = pos 9200; min1 = pos 9500; max1 = pos 10500; max2 = pos 10800 }

abbrev pub wind_limits : Limits
wind_limits = record { min2 = pos 0; min1 = pos 0; max1 = pos 400; max2 = pos 750 }

abbrev pub rain_limits : Limits
rain_limits = record { min2 = pos 0; min1 = pos 0; max1 = pos 2000; max2 = pos 5000 }

-- "C and V: none.": the least and the largest value of 16 bits, which no cell passes
abbrev pub unlimited : Limits
unlimited = record { min2 = neg_ℤ (pos 32768); min1 = neg_ℤ (pos 32768); max1 = pos 32767; max2 = pos 32767 }

-- the limits of an element, in the elements' order T, D, P, W, C, V, R, X, M
abbrev pub limits : ℕ → ℕ → Bool → Limits
limits element row warm =
    get_or
    (temperature_limits row warm
    ∷ dew_point_limits row warm
    ∷ pressure_limits
    ∷ wind_limits
    ∷ unlimited
    ∷ unlimited
    ∷ rain_limits
    ∷ temperature_limits row warm
    ∷ temperature_limits row warm
    ∷ [])
    element unlimited
