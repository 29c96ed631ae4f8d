-- `daily::counts::in_column` meets its contract.
use mathlib.Core.Path.{◌≡◌, ◌∙◌}
use mathlib.Core.Bool.{cond}
use Prim.Native.Nat.{ℕ, ◌^◌}
use Rattle.std.proofs.Common.{rules}
use Rattle.std.proofs.lemmas.Iterator.{YieldsList-from_slice, YieldsList-from_map}
use Rattle.std.proofs.lemmas.Iterator.Consumers.{YieldsList-at, sum_by_from_yields_List, fits_by_from_yields_list}
use native.Mathlib.Omega.{arith}
use Rattle.quality.specs.Coded.{cells}
use Rattle.daily.specs.Counts.{counts_under, in_column}
use Rattle.daily.proofs.Counting.{column_count, column_most}
use Rattle.daily.proofs.counts.in_column.Goals as goal

pub sum-requires-clause-fits : goal.sum-requires-clause-fits
sum-requires-clause-fits c =
    let s = c.args.state in
    let d = c.args.c.now in
    let h = λ (a : ℕ). cond (counts_under s a) 1 0 in
    fits_by_from_yields_list h d.states c.map.result (2 ^ 32)
    (YieldsList-from_map _ h (YieldsList-at c.map.ensures.source (YieldsList-from_slice d.states c.iter.ensures.rest)) c.map.ensures.closure (λ x r q k. search rules))
    (omega (arith, column_count s d (search rules), column_most s (cells d) 9))

pub returns : goal.returns
returns c =
    let s = c.args.state in
    let d = c.args.c.now in
    let h = λ (a : ℕ). cond (counts_under s a) 1 0 in
    let e : c.sum.result ≡ in_column s (cells d) 9 =
    sum_by_from_yields_List h d.states c.map.result c.sum.result c.sum.ensures.ran
    (YieldsList-from_map _ h (YieldsList-at c.map.ensures.source (YieldsList-from_slice d.states c.iter.ensures.rest)) c.map.ensures.closure (λ x r q k. search rules))
    ∙ column_count s d (search rules) in
    (e, omega (arith, e, column_most s (cells d) 9))
