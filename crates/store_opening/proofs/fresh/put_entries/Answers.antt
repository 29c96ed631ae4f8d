-- `store_opening::fresh::put_entries` meets its contract. The loop's invariant: the entries laid so far.
use mathlib.Core.Path.{refl, ◌∙◌, ap}
use mathlib.Core.List.{◌++◌}
use Prim.Native.Nat.{ℕ}
use borrow.Author.Rules.{rules}
use lib.Seq.{sets}
use native.Mathlib.Omega.{arith}
use Rattle.std.proofs.Common.{length-append}
use Rattle.std.proofs.lemmas.Iterator.{YieldsList-from_slice, YieldsList-from_zip}
use Rattle.std.proofs.lemmas.Iterator.Consumers.{YieldsList-from_enumerate, YieldsList-turn, YieldsList-end}
use Rattle.store_layout.specs.Layout.{entry_at, entry_length, long_bytes, word_bytes}
use Rattle.store_numbers.proofs.Laying.{none, more, whole}
use Rattle.store_opening.proofs.Entered.{listed_turn, listed_long}
use Rattle.store_opening.proofs.fresh.put_entries.Goals as goal

pub loop-i-init : goal.loop-i-init
loop-i-init c = none _ _ _ _

pub loop-i-preserved : goal.loop-i-preserved
loop-i-preserved c =
    let a = c.args in
    let l = c.loop-i in
    let t = YieldsList-turn (YieldsList-from_enumerate (YieldsList-from_zip (YieldsList-from_slice a.stations.now (search rules)) (YieldsList-from_slice a.rows.now (search rules))) (search rules)) l.yielded l.i-iterator l.yielded_by c.next.result c.next.new.self _ c.in-Some.is c.next.ensures.steps in
    let p = listed_turn a.stations.now a.rows.now (search rules) _ _ t.0 t.1 in
    rw length-append (more l.invariant entry_length (λ j. refl) p.0 _ (c.entry_at.ensures ∙ ap (λ (q : ℕ × (ℕ × ℕ)). entry_at q.0) p.1)
    (c.put_entry.ensures ∙ ap (λ (q : ℕ × (ℕ × ℕ)). sets l.store c.entry_at.result (long_bytes q.1.0 ++ (word_bytes q.1.1 ++ word_bytes 0))) p.1))

pub returns : goal.returns
returns c =
    let a = c.args in
    let l = c.loop-i in
    let e = YieldsList-end (YieldsList-from_enumerate (YieldsList-from_zip (YieldsList-from_slice a.stations.now (search rules)) (YieldsList-from_slice a.rows.now (search rules))) (search rules)) l.yielded l.i-iterator l.yielded_by c.next.result c.next.new.self c.in-None.is c.next.ensures.steps in
    whole l.invariant (omega (arith, e.1, listed_long a.stations.now a.rows.now (search rules)))
