-- What std prints of the numbers of a line, and how long the lines are.
-- Assumes nothing.
use mathlib.Core.Path.{◌≡◌, refl}
use mathlib.Core.List.{List, ◌++◌}
use Prim.Native.Nat.{ℕ, ◌<◌, ◌≤◌, ◌^◌}
use native.Mathlib.Omega.{arith}
use lib.IntN.{ℤ}
use lib.ListN.{length, length-append}
use Rattle.std.specs.Prelude.{Option, None, Some, IfSome, FitsSigned}
use Rattle.std.specs.Int.{w32}
use Rattle.std.specs.Fmt.{decimal as printed, signed_decimal as printed_signed}
use Rattle.daily.specs.declared.DayLine.{DayLine}
use Rattle.texts.specs.Written.{Adds}
use Rattle.texts.proofs.Writing.{adds_two}
use Rattle.texts.specs.Numbers.{field}
use Rattle.texts.proofs.Decimals.{decimal_printed, signed_printed, digits_short, signed_short}
use Rattle.dayline_text.specs.Printed.{or_dash, rain, slot, station_text, day_text, refused_text}

-- ---- as printed
pub rain_printed : (r : Option ℤ) → IfSome r (λ z. FitsSigned w32 z) → or_dash printed_signed r ≡ rain r
rain_printed None h = refl
rain_printed (Some z) h = signed_printed z h

pub slot_printed : (e : Option ℕ) → IfSome e (λ k. k < 2 ^ 64) → or_dash printed e ≡ slot e
slot_printed None h = refl
slot_printed (Some k) h = decimal_printed k h

-- ---- three fields, one behind the other
pub three_put : {room : ℕ} {a b c d x y z : List ℕ} → Adds room a b (field x) → Adds room b c (field y) → Adds room c d (field z)
    → Adds room a d (field x ++ (field y ++ field z))
three_put f g h = adds_two f (adds_two g h)

-- ---- lengths
rain_short : (r : Option ℤ) → length (rain r) ≤ 21
rain_short None = omega arith
rain_short (Some z) = signed_short z

slot_short : (e : Option ℕ) → length (slot e) ≤ 20
slot_short None = omega arith
slot_short (Some k) = digits_short 19 k

pub day_short : (station : ℕ) (d : DayLine) → length (day_text station d) ≤ 160
unfolding station_text
day_short station d =
    simp length-append
    (omega (
      arith,
      rain_short d.rain,
      slot_short d.warmest,
      slot_short d.coldest,
      digits_short 19 d.read,
      digits_short 19 d.corrected,
      digits_short 19 d.filled,
      digits_short 19 d.missing,
    ))

pub refused_short : (n : ℕ) → length (refused_text n) ≤ 160
unfolding refused_text
refused_short n = simp length-append (omega (arith, digits_short 19 n))
