-- `engine_filing::slot_in` meets its contract.
use Rattle.engine_answers.proofs.Stores.{headed}
use Rattle.engine_filing.proofs.slot_in.Goals as goal

pub date_of-date-requires : goal.date_of-date-requires
date_of-date-requires c = headed c.requires

pub returns : goal.returns
returns c =
    let d = c.date_of-date.ensures in
    cc (d.0, d.1, d.2, c.slot_of.ensures, c.from.ensures, c.from-2.ensures)
