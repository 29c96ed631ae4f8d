-- A signed value of 16 bits in offset binary: v + 32768 in an unsigned number of 16 bits. Order and differences are then those of
-- the unsigned numbers. No code keeps a value so: it is how laws on differences and means of values are proved.
-- Assumes nothing.
use Rattle.std.specs.Prelude.{ℕ, ℤ}
use Rattle.std.proofs.Math.IntN.{sub_ℕ}

-- the value that n stands for: n − 32768
abbrev pub value : ℕ → ℤ
value n = sub_ℕ n 32768
