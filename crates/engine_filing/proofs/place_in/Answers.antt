-- `engine_filing::place_in` meets its contract: `find` is given a sound store.
use Rattle.engine_answers.proofs.Stores.{framed}
use Rattle.engine_filing.proofs.place_in.Goals as goal

pub find-requires : goal.find-requires
find-requires c = framed c.requires
