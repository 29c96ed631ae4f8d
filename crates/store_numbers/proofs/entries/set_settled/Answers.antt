-- `store_numbers::entries::set_settled` meets its contract: the two bytes stand in the entry of the station at the index.
use Rattle.store_numbers.proofs.Marks.{marked}
use Rattle.store_numbers.proofs.entries.set_settled.Goals as goal

pub returns : goal.returns
returns c = marked _ _ c.args.index c.args.settled c.requires.0 c.requires.1 (rw c.entry_at.ensures at c.put_word.ensures)
