-- How long a buffer can be: a position in one is no larger.
-- Assumes nothing.
use Rattle.std.specs.Prelude.{ℕ}

abbrev pub room : ℕ
room = 9223372036854775807
