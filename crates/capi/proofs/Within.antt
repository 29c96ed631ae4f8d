-- A day line's counts are at most 81, and its slots below 8.
-- Assumes nothing.
use mathlib.Core.List.{List}
use Rattle.std.specs.Prelude.{Option, None, Some}
use Prim.Native.Nat.{ℕ, ◌<◌}
use native.Mathlib.Omega.{arith}
use Rattle.quality.specs.declared.head.SlotHead.{SlotHead}
use Rattle.quality.specs.Cell.{Cell}
use Rattle.quality.specs.Elements.{column, temperature}
use Rattle.daily.specs.Counts.{count}
use Rattle.daily.proofs.Counting.{count_most}
use Rattle.daily.proofs.Ties.{Below, warmest_below, coldest_below}
use Rattle.daily.specs.Extremes.{warmest, coldest}
use Rattle.daily.specs.Line.{day_line}
use Rattle.capi.specs.Arrays.{Near, Small, line_of}

-- ---- counts
count_small : (s : ℕ) (sheet : List (List Cell)) → count s sheet < 82
count_small s sheet = omega (arith, count_most s sheet)

-- ---- slots
near : (o : Option ℕ) → Below 8 o → Near o
near None h = tt
near (Some k) h = h

-- ---- the day line
pub line_small : (hs : List SlotHead) (s : List (List Cell)) → Small (line_of (day_line hs s))
unfolding day_line
line_small hs s =
    let ts = column s temperature in
    record {
      warmest = near (warmest ts) (warmest_below ts);
      coldest = near (coldest ts) (coldest_below ts);
      read = count_small 1 s;
      corrected = count_small 2 s;
      filled = count_small 3 s;
      missing = count_small 0 s;
    }
