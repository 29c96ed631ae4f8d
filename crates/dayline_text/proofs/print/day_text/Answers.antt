-- `dayline_text::print::day_text` meets its contract: there is room for all of it.
use Rattle.texts.proofs.Writing.{adds_two, adds_all}
use Rattle.dayline_text.specs.Printed.{station_text}
use Rattle.dayline_text.proofs.Printing.{day_short}
use Rattle.dayline_text.proofs.print.day_text.Goals as goal

pub returns : goal.returns
unfolding station_text
returns c =
    let a = c.args in
    adds_all c.new-text.ensures (day_short a.station a.day)
    (adds_two (rw c.five_digits.ensures at c.put_all.ensures) (adds_two c.measured.ensures (adds_two c.counts.ensures c.put.ensures)))
