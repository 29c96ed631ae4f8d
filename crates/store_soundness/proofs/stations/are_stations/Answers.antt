-- `store_soundness::stations::are_stations` meets its contract. The loop's invariant: each station passed is sound and in order, and `last` is the last number.
use mathlib.Core.Path.{◌∙◌}
use native.Mathlib.Numerals.{add-one}
use borrow.Author.Rules.{rules}
use Rattle.store_numbers.proofs.Passed.{more, whole, stopped}
use Rattle.store_soundness.proofs.InTurn.{stations_in_turn}
use Rattle.store_soundness.proofs.stations.are_stations.Goals as goal

pub returns-then-not-is_station : goal.returns-then-not-is_station
returns-then-not-is_station c =
    let a = c.args in
    stopped c.loop-i.invariant.0 (search rules) _ (rw (c.is_station.ensures, c.loop-i.invariant.1)) c.if-not-is_station.true ∙ stations_in_turn a.store.now a.n

pub loop-i-preserved : goal.loop-i-preserved
loop-i-preserved c = (
  more c.loop-i.invariant.0 (search rules) _ (rw (c.is_station.ensures, c.loop-i.invariant.1)) c.if-not-is_station.false,
  rw (add-one, ← c.entry_at.ensures) c.long_at-last.ensures,
)

pub returns : goal.returns
returns c = whole c.loop-i.invariant.0 (search rules) ∙ stations_in_turn c.args.store.now c.args.n
