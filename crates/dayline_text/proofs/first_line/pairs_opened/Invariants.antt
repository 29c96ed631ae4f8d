-- `dayline_text::first_line::pairs_opened` meets its contract. The invariant: the first pairs are told apart.
use Rattle.dayline_text.proofs.Opening.{Pairing}
use Rattle.dayline_text.proofs.first_line.pairs_opened.Given as goal

abbrev pub invariant-loop-station : goal.invariant-loop-station
invariant-loop-station l = Pairing l.numbers l.stations.items l.rows.items l.station-index
