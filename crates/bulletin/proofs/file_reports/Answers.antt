-- `bulletin::file_reports` meets its contract. The invariant: what is left gives what was asked at the start.
use mathlib.Core.Path.{sym, ◌∙◌, ap}
use mathlib.Core.Bool.{Bool, not}
use Prim.Native.Nat.{◌+◌}
use native.Mathlib.Omega.{arith}
use lib.ListN.{length-drop}
use Rattle.std.specs.Int.{from_bool}
use Rattle.bulletin.proofs.Reports.{onward, below, filing_none, filing_more, filing_all, one_each}
use Rattle.bulletin.proofs.file_reports.Goals as goal

pub loop-end-init : goal.loop-end-init
loop-end-init c = filing_none _ _ _ _ c.requires.sound

pub file_report-requires : goal.file_report-requires
file_report-requires c = (c.loop-end.invariant.sound, c.requires.ranked)

pub overflow_add-accepted : goal.overflow_add-accepted
overflow_add-accepted c =
    let v = c.loop-end.invariant in omega (arith, v.few, c.requires.short, c.from-accepted.ensures, one_each c.is_ok-filed.result)

pub overflow_add-refused : goal.overflow_add-refused
overflow_add-refused c =
    let v = c.loop-end.invariant in omega (arith, v.few, c.requires.short, c.from-refused.ensures, one_each c.is_ok-filed.result)

pub overflow_add-rest : goal.overflow_add-rest
overflow_add-rest c = let v = c.loop-end.invariant in omega (arith, v.few, c.requires.short, below c.loop-end.rest.now c.in-Some.end (sym c.in-Some.ensures))

pub loop-end-smaller : goal.loop-end-smaller
loop-end-smaller c = rw (onward c.loop-end.rest.now (c.in-Some.end + 1)) (omega (arith, below c.loop-end.rest.now c.in-Some.end (sym c.in-Some.ensures), length-drop (c.in-Some.end + 1) c.loop-end.rest.now))

pub loop-end-preserved : goal.loop-end-preserved
loop-end-preserved c =
    rw (onward c.loop-end.rest.now (c.in-Some.end + 1))
    (filing_more c.file_report.result c.in-Some.end _ _ _ c.loop-end.invariant (sym c.in-Some.ensures) c.file_report.ensures
    (c.from-accepted.ensures ∙ ap from_bool c.is_ok-filed.ensures.value)
    (c.from-refused.ensures ∙ ap (λ (b : Bool). from_bool (not b)) c.is_ok-filed.ensures.value))

pub overflow_add-refused-2 : goal.overflow_add-refused-2
overflow_add-refused-2 c =
    let v = c.loop-end.invariant in omega (arith, v.few, c.requires.short, c.from-refused-2.ensures, one_each c.is_blank-blank.result)

pub returns : goal.returns
returns c = filing_all c.is_blank-blank.result _ c.loop-end.invariant (sym c.in_default.ensures) c.is_blank-blank.ensures c.from-refused-2.ensures
