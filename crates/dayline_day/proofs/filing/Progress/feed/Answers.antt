-- `dayline_day::filing::Progress::feed` meets its contract.
use Rattle.std.proofs.Common.{rules}
use Rattle.dayline_day.proofs.FiledPieces.{feeding_none, feeding_more, fed_all}
use Rattle.dayline_day.proofs.filing.Progress.feed.Goals as goal

pub loop-b-init : goal.loop-b-init
loop-b-init c = feeding_none _ _ _

pub loop-b-preserved : goal.loop-b-preserved
loop-b-preserved c = feeding_more c.loop-b.invariant (search rules) c.byte-blank.auto.store c.byte-blank.ensures

pub returns : goal.returns
returns c = fed_all c.loop-b.invariant (search rules)
