-- A test at every number below a bound.
-- Assumes nothing.
use Rattle.std.specs.Prelude.{Bool, true, ◌&&◌, ℕ, zero, suc}

-- p holds at each of 0 .. n - 1
abbrev pub all : (ℕ → Bool) → ℕ → Bool
all p zero = true
all p (suc n) = all p n && p n
