-- `dayline_text::print::refused_text` meets its contract: there is room for all of it.
use native.Mathlib.Omega.{arith}
use Rattle.texts.proofs.Writing.{adds_two, adds_all}
use Rattle.texts.proofs.Decimals.{decimal_printed}
use Rattle.dayline_text.specs.Printed.{refused_text}
use Rattle.dayline_text.proofs.Printing.{refused_short}
use Rattle.dayline_text.proofs.print.refused_text.Goals as goal

pub returns : goal.returns
unfolding refused_text
returns c =
    let n = c.args.n in
    adds_all c.new-text.ensures (refused_short n)
    (rw (← decimal_printed n (omega arith)) (adds_two c.put_all.ensures (adds_two c.number.ensures c.put.ensures)))
