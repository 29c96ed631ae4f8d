-- `synop_text::Cursor::step` meets its contract: the blanks before a group, and the group.
use mathlib.Core.Path.{sym, ◌∙◌, ap}
use Prim.Native.Nat.{◌+◌}
use native.Mathlib.Omega.{arith}
use lib.ListN.{length}
use Rattle.std.specs.Prelude.{slice_range}
use Rattle.std.specs.Option.{unwrap_or}
use Rattle.synop_text.specs.Walk.{Bounds}
use Rattle.synop_text.proofs.Cuts.{none_left, none_after, stepped}
use Rattle.synop_text.proofs.Cursor.step.Goals as goal

pub returns-in_err-rest : goal.returns-in_err-rest
returns-in_err-rest c =
    rw c.from_residual.ensures (none_left c.args.s.now c.args.self.at (omega (arith, c.in_err-rest.ensures.lookup)))

pub returns-in_err-skipped : goal.returns-in_err-skipped
returns-in_err-skipped c =
    rw c.from_residual-in_err-skipped.ensures
    (none_after c.args.s.now c.in_ok-rest.rest.now c.args.self.at c.in_ok-rest.ensures.lookup.0.2 (sym c.in_err-skipped.ensures))

group : (c : goal.After-unwrap_or) → Bounds c.args.s.now c.args.self.at (c.args.self.at + c.in_ok-skipped.skipped) (c.args.self.at + c.in_ok-skipped.skipped + c.unwrap_or.result)
group c =
    let s = c.args.s.now in
    let left = length (slice_range s (c.args.self.at + c.in_ok-skipped.skipped) (length s)) in
    stepped s c.in_ok-rest.rest.now c.args.self.at c.in_ok-skipped.skipped c.unwrap_or.result c.in_ok-rest.ensures.lookup.0.2
    (sym c.in_ok-skipped.ensures) (c.unwrap_or.ensures ∙ ap (λ o. unwrap_or o left) c.first_blank.ensures)

pub overflow_add-end : goal.overflow_add-end
overflow_add-end c = let h = (group c).upto in omega arith

pub returns : goal.returns
returns c = group c
