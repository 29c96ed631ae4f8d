-- What the calls for C and Rust return: an answer's number.
-- Assumes nothing.
use Rattle.std.specs.Prelude.{ℕ, Result, Ok, Err}
use Rattle.rules.specs.Calls.{Answer, on_refused}
use Rattle.vapour.specs.declared.LengthNeeded.{LengthNeeded}

-- 0 where the call is not refused, else the refusal's number ("Numbers at the gate", 1 to 12; S-3: 13; S-6: 14)
abbrev pub number : Answer → ℕ
number a = on_refused (λ n. n) 0 a

-- S-1: 0 where the vapour table was filled, else the length needed
abbrev pub filling_number : Result Unit LengthNeeded → ℕ
filling_number (Ok r) = 0
filling_number (Err e) = e.0
