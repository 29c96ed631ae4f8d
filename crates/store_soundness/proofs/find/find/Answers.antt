-- `store_soundness::find::find` meets its contract.
use mathlib.Core.Path.{refl}
use native.Mathlib.Omega.{arith}
use borrow.Author.Rules.{rules}
use Rattle.std.proofs.lemmas.Iterator.{YieldsList-from_range, first_from_find}
use Rattle.store_soundness.proofs.Indices.{Here, Other, searched}
use Rattle.store_soundness.proofs.find.find.Goals as goal

pub returns : goal.returns
returns c =
    let a = c.args in
    let n = c.word_at-n.result in
    let e = c.word_at-n.ensures in
    searched a.store.now a.station n e c.find.result
    (first_from_find _ _ c.find.result (Here a.store.now a.station n e) (Other a.store.now a.station n e) c.find.ensures.ran (YieldsList-from_range 0 n n refl (omega arith)) (λ x q k. search rules) (λ x q k. search rules))
