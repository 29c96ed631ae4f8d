-- `esfenruk::esfenruk_file` meets its contract: the number of what `engine::file` answers, and the bytes that it leaves.
use Rattle.esfenruk.proofs.esfenruk_file.Goals as goal

pub returns : goal.returns
returns c = record { number = rw c.file.ensures.answer at c.number_of.ensures; left = c.file.ensures.left }
