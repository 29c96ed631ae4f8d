-- `store_opening::open::are_listed` meets its contract. The loop's invariant: each station passed is in order and passes its tests, and `last` is the last number.
use mathlib.Core.Path.{◌∙◌}
use native.Mathlib.Numerals.{add-one}
use native.Mathlib.Omega.{arith}
use Rattle.std.proofs.Common.{length-append}
use Rattle.std.proofs.lemmas.Slice.Zip.{zip_turn, zip_end}
use Rattle.store_numbers.proofs.Passed.{more, whole, stopped}
use Rattle.store_opening.proofs.Listed.{listed_in_turn}
use borrow.Author.Rules.{rules}
use Rattle.store_opening.proofs.open.are_listed.Goals as goal

pub returns-then-not-is_listed : goal.returns-then-not-is_listed
returns-then-not-is_listed c =
    let a = c.args in
    let l = c.loop-number in
    let t = zip_turn a.stations.now a.rows.now l.yielded c.into_iter-number-iterator.result l.number-iterator c.next.new.self c.next.result (search rules) (search rules) l.yielded_by _ c.in-Some.is c.next.ensures.steps in
    stopped l.invariant.0 t.0 _ (rw (c.is_listed.ensures, l.invariant.1, t.2 0, t.3 0)) c.if-not-is_listed.true ∙ listed_in_turn a.stations.now a.rows.now

pub loop-number-preserved : goal.loop-number-preserved
loop-number-preserved c =
    let a = c.args in
    let l = c.loop-number in
    let t = zip_turn a.stations.now a.rows.now l.yielded c.into_iter-number-iterator.result l.number-iterator c.next.new.self c.next.result (search rules) (search rules) l.yielded_by _ c.in-Some.is c.next.ensures.steps in
    rw length-append
    (more l.invariant.0 t.0 _ (rw (c.is_listed.ensures, l.invariant.1, t.2 0, t.3 0)) c.if-not-is_listed.false, rw add-one (t.2 0))

pub returns : goal.returns
returns c =
    let a = c.args in
    let l = c.loop-number in
    let e = zip_end a.stations.now a.rows.now l.yielded c.into_iter-number-iterator.result l.number-iterator c.next.new.self c.next.result (search rules) (search rules) l.yielded_by c.in-None.is c.next.ensures.steps in
    whole l.invariant.0 (omega (arith, e)) ∙ listed_in_turn a.stations.now a.rows.now
