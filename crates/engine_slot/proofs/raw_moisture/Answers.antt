-- `engine_slot::raw_moisture` meets its contract: a humidity in another state is refused without long search.
use borrow.Author.Rules.{rules}
use Rattle.engine_slot.proofs.raw_moisture.Goals as goal

pub returns-in-Some-Humidity : goal.returns-in-Some-Humidity
returns-in-Some-Humidity c = search rules
