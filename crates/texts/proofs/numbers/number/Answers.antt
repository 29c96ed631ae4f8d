-- `texts::numbers::number` meets its contract: the space, and then what was formatted.
use Rattle.texts.proofs.Writing.{adds_two}
use Rattle.texts.proofs.numbers.number.Goals as goal

pub returns : goal.returns
returns g c = let u = adds_two c.put.ensures c.put_all.ensures in rw (c.as_bytes.ensures.value, c.format.ensures.text) at u
