-- `daily::counts::count` meets its contract.
use mathlib.Core.Path.{◌∙◌}
use Prim.Native.Nat.{◌^◌}
use Rattle.std.proofs.Common.{rules}
use Rattle.std.proofs.lemmas.Iterator.{YieldsList-from_slice, YieldsList-from_map}
use Rattle.std.proofs.lemmas.Iterator.Consumers.{YieldsList-at, sum_by_from_yields_List, fits_by_from_yields_list}
use native.Mathlib.Omega.{arith}
use Rattle.quality.specs.declared.column.Column.{Column}
use Rattle.quality.specs.Coded.{cells, sheet}
use Rattle.daily.specs.Counts.{in_column}
use Rattle.daily.proofs.Counting.{sheet_count, count_most}
use Rattle.daily.proofs.counts.count.Goals as goal

pub sum-requires-clause-fits : goal.sum-requires-clause-fits
sum-requires-clause-fits c =
    let s = c.args.state in
    let h = λ (d : Column). in_column s (cells d) 9 in
    fits_by_from_yields_list h c.args.s.now c.map.result (2 ^ 32)
    (YieldsList-from_map _ h (YieldsList-at c.map.ensures.source (YieldsList-from_slice c.args.s.now c.iter.ensures.rest)) c.map.ensures.closure (λ x r q k. search rules))
    (omega (arith, sheet_count s c.args.s.now (search rules), count_most s (sheet c.args.s.now)))

pub returns : goal.returns
returns c =
    let s = c.args.state in
    let h = λ (d : Column). in_column s (cells d) 9 in
    sum_by_from_yields_List h c.args.s.now c.map.result c.sum.result c.sum.ensures.ran
    (YieldsList-from_map _ h (YieldsList-at c.map.ensures.source (YieldsList-from_slice c.args.s.now c.iter.ensures.rest)) c.map.ensures.closure (λ x r q k. search rules))
    ∙ sheet_count s c.args.s.now (search rules)
