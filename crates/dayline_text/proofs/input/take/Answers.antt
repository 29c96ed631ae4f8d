-- `dayline_text::input::take` meets its contract.
use mathlib.Core.Path.{sym}
use Rattle.dayline_text.proofs.Beginnings.{takes_found, takes_whole}
use Rattle.dayline_text.proofs.input.take.Goals as goal

pub returns-in-Some : goal.returns-in-Some
returns-in-Some c = takes_found _ _ _ _ c.in_ok-got.was (rw c.in_ok-got.was at c.requires) (sym c.in-Some.ensures) c.piece.ensures

pub returns-in-None : goal.returns-in-None
returns-in-None c =
    takes_whole _ _ _ _ c.in_ok-got.was (rw c.in_ok-got.was at c.requires) (sym c.in-None.ensures) c.piece-in-None.ensures c.then_some.ensures
