-- `dayline_day::filing::Progress::byte` meets its contract.
use native.Mathlib.Omega.{arith}
use mathlib.Core.Path.{refl}
use Rattle.dayline_day.proofs.FiledPieces.{byte_end, byte_on, fresh}
use Rattle.dayline_day.proofs.filing.Progress.byte.Goals as goal

pub returns-then-b-eq61 : goal.returns-then-b-eq61
returns-then-b-eq61 c = byte_end _ (record { adds = c.try_push-full.ensures.adds }) (omega arith) _ _ c.finish.ensures.filed (fresh c.finish.ensures.anew)

pub returns : goal.returns
returns c = byte_on _ (record { adds = c.try_push-full.ensures.adds }) (λ e. omega arith) _ refl _ c.is_blank.ensures
