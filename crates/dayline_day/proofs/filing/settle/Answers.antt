-- `dayline_day::filing::settle` meets its contract.
use Rattle.dayline_day.proofs.filing.settle.Goals as goal

pub returns : goal.returns
returns c = c.settle-settled.ensures.left
