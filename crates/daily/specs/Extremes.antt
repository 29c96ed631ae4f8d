-- "Warmest and coldest slot among 0 to 7, by checked T, the earliest on ties; absent without any T." Since S-7 the warmest is the latest:
-- "Among equal temperatures the warmest slot is now the latest. The coldest slot keeps the earliest."
-- Assumes nothing.
use Rattle.std.specs.Prelude.{Bool, not, cond, ◌&&◌, ◌||◌, List, ℕ, zero, suc, ℤ, Option, None, Some}
use Rattle.std.specs.Int.Signed.{lt_z}
use Rattle.laws.specs.All.{all}
use Rattle.quality.specs.Cell.{Cell, missing, there, slot}
use Rattle.daily.specs.declared.extremes.Tie.{Tie}
use Rattle.daily.specs.declared.extremes.Tie.TheVariants.{Earliest, Latest}

-- which of 0 .. n - 1 it is at which p holds: where there are several, "the earliest on ties" or the latest
unfoldable pub on_ties : Tie → (ℕ → Bool) → ℕ → Option ℕ
on_ties tie p zero = None
on_ties tie p (suc n) = choose tie (on_ties tie p n) (cond (p n) (Some n) None)
  where
    or : Option ℕ → Option ℕ → Option ℕ
    or None b = b
    or (Some k) b = Some k

    choose : Tie → Option ℕ → Option ℕ → Option ℕ
    choose Earliest before last = or before last
    choose Latest before last = or last before

-- slot k has a temperature, and none of the slots 0 to 7 has one that is beyond it. `beyond x y`: x is warmer (or colder) than y
abbrev pub utmost : (ℤ → ℤ → Bool) → List Cell → ℕ → Bool
utmost beyond ts k =
    there (slot ts k) && all (λ j. missing (slot ts j) || not (beyond (slot ts j).value (slot ts k).value)) 8

unfoldable pub warmest : List Cell → Option ℕ
warmest ts = on_ties Latest (utmost (λ x y. lt_z y x) ts) 8

unfoldable pub coldest : List Cell → Option ℕ
coldest ts = on_ties Earliest (utmost lt_z ts) 8
