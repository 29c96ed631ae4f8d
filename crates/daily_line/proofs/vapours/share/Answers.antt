-- `daily_line::vapours::share` meets its contract.
use mathlib.Core.Path.{◌≡◌, ◌∙◌, ap}
use native.Mathlib.Omega.{arith}
use lib.IntN.{nat_abs}
use mir.Syntax.{w16}
use mir.Val.{SFits}
use Rattle.std.proofs.Common.{rules}
use Rattle.std.proofs.lemmas.Int.{to_z-of_z}
use Rattle.laws.proofs.Bools.{via}
use Rattle.daily.specs.Means.{share}
use Rattle.daily_line.proofs.Lookup.{product_most, shared}
use Rattle.daily_line.proofs.vapours.share.Goals as goal

pub overflow_cast-result : goal.overflow_cast-result
overflow_cast-result c =
    let d = c.args.d in
    let f : SFits w16 d.value = search rules in
    let u : c.from-percent.result ≡ nat_abs d.value = c.from-percent.ensures ∙ simp to_z-of_z at c.unsigned_abs.ensures.value in
    record { fits = omega (arith, product_most d c.from.result c.from-percent.result c.requires.0 (via c.is_humidity.ensures c.if-is_humidity.true) u) }

pub returns-then-is_humidity : goal.returns-then-is_humidity
returns-then-is_humidity c =
    let d = c.args.d in
    let f : SFits w16 d.value = search rules in
    let u : c.from-percent.result ≡ nat_abs d.value = c.from-percent.ensures ∙ simp to_z-of_z at c.unsigned_abs.ensures.value in
    let h = via c.is_humidity.ensures c.if-is_humidity.true in
    (shared d c.from.result c.from-percent.result c.requires.0 h u ∙ ap (share d) c.from.ensures, omega (arith, product_most d c.from.result c.from-percent.result c.requires.0 h u))
