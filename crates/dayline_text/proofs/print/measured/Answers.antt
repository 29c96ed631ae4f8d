-- `dayline_text::print::measured` meets its contract: the fields one behind the other, as std prints their numbers. By a search, so that what is
-- put in place of a value is refused at what is ensured.
use borrow.Author.Rules.{rules}
use Rattle.dayline_text.proofs.Printing.{rain_printed, slot_printed, three_put}
use Rattle.dayline_text.proofs.print.measured.Goals as goal

pub returns : goal.returns
returns g c =
    let d = c.args.day in
    rw (← rain_printed d.rain (search rules), ← slot_printed d.warmest (search rules), ← slot_printed d.coldest (search rules))
    (search (rules, three_put, c.field.ensures, c.field-2.ensures, c.field-3.ensures))
