-- `store_numbers::entries::date_of` meets its contract: each word is the part of the date that it is read for.
use Rattle.store_layout.specs.Layout.{decode}
use Rattle.store_numbers.proofs.entries.date_of.Goals as goal

pub returns : goal.returns
unfolding decode
returns c = (c.word_at.ensures, c.word_at-2.ensures, c.word_at-3.ensures)
