-- `daily_line::means::eighth` meets its contract.
use mathlib.Core.Path.{refl}
use native.Mathlib.Nat.{lt_of_le_of_lt}
use lib.Dec.{lit<}
use lib.Signed.{nat_abs-le}
use mir.Facts.{to_z-of_z}
use mir.Syntax.{w32}
use Rattle.daily_line.proofs.Exact.{exact}
use Rattle.daily_line.proofs.means.eighth.Goals as goal

pub returns : goal.returns
returns c =
    let e = to_z-of_z {w = w32} c.ranges.sum in
    rw e (record { rule = refl; exact = exact c.args.sum (lt_of_le_of_lt (nat_abs-le c.args.sum c.ranges.sum.sfits) (lit< tt)) })
