-- `daily_line::means::mean` meets its contract.
use mathlib.Core.Bool.{false, true}
use mir.Syntax.{w32}
use mir.Val.{SFits}
use Rattle.std.proofs.Common.{rules}
use Rattle.std.proofs.lemmas.Int.{to_z-of_z}
use Rattle.laws.proofs.Bools.{via}
use Rattle.quality.specs.Coded.{cells}
use Rattle.daily_line.proofs.Sums.{says_absent, says_sum}
use Rattle.daily_line.proofs.means.mean.Goals as goal

pub returns-then-not-complete : goal.returns-then-not-complete
returns-then-not-complete c = says_absent (cells c.args.c) (via c.complete.ensures c.if-not-complete.true)

pub returns-then-plain : goal.returns-then-plain
returns-then-plain c =
    let f : SFits w32 c.eightfold.result = search rules in
    says_sum (cells c.args.c) true _ c.eighth-x.result (via c.complete.ensures c.if-not-complete.false) (via c.plain.ensures c.if-plain.true)
    c.eightfold.ensures (simp to_z-of_z at c.eighth-x.ensures.rule) (simp to_z-of_z at c.eighth-x.ensures.exact)

pub returns : goal.returns
returns c =
    let f : SFits w32 c.eightfold.result = search rules in
    says_sum (cells c.args.c) false _ c.eighth-x.result (via c.complete.ensures c.if-not-complete.false) (via c.plain.ensures c.if-plain.false)
    c.eightfold.ensures (simp to_z-of_z at c.eighth-x.ensures.rule) (simp to_z-of_z at c.eighth-x.ensures.exact)
