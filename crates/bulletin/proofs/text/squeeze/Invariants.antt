-- `bulletin::text::squeeze` meets its contract. The invariant: with the groups from the cursor on behind them, those that are put are all.
use Prim.Native.Nat.{ℕ, ◌-◌}
use mathlib.Core.List.{List}
use lib.ListN.{length, drop}
use Rattle.synop_text.specs.Groups.{groups}
use Rattle.texts.specs.Written.{Adds}
use Rattle.bulletin.specs.Rebuilt.{spaced}
use Rattle.bulletin.proofs.text.squeeze.Given as goal

abbrev pub invariant-loop-start : goal.invariant-loop-start
invariant-loop-start g l =
    (new : List ℕ) → Adds g.row.N l.text.items new (spaced (groups (drop l.cursor.at l.piece))) → Adds g.row.N l.initial.text.items new (spaced (groups l.piece))

abbrev pub decreases-loop-start : goal.decreases-loop-start
decreases-loop-start g l = length l.piece - l.cursor.at
