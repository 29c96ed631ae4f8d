-- `dayline_text::print::counts` meets its contract: the fields one behind the other, as std prints their numbers.
use native.Mathlib.Omega.{arith}
use Rattle.texts.proofs.Writing.{adds_two}
use Rattle.texts.proofs.Decimals.{decimal_printed}
use Rattle.dayline_text.proofs.print.counts.Goals as goal

pub returns : goal.returns
returns g c =
    let d = c.args.day in
    rw (← decimal_printed d.read (omega arith), ← decimal_printed d.corrected (omega arith), ← decimal_printed d.filled (omega arith), ← decimal_printed d.missing (omega arith))
    (adds_two c.number.ensures (adds_two c.number-2.ensures (adds_two c.number-3.ensures c.number-4.ensures)))
