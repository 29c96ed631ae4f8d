-- What the inner functions' answers say: how large an amount of rain is.
-- Assumes nothing.
use Rattle.std.specs.Prelude.{ℕ, ◌*◌, ◌≤◌, ℤ, nat_abs, Option, None, Some}

-- made of at most n values of 16 bits
abbrev pub Small : ℕ → Option ℤ → Type 0
Small n None = Unit {0}
Small n (Some z) = nat_abs z ≤ n * 32768
