-- `dayline_text::first_line::pairs_opened` meets its contract.
use Rattle.std.proofs.Common.{rules, arith, ◌≡◌, ◌≤◌, length}
use Rattle.laws.proofs.Bools.{via}
use Rattle.dayline_text.proofs.Opening.{first_no, first_yes, pairing_none, pairing_more, pairing_long, pairs_count}
use Rattle.dayline_text.specs.FirstLine.{pairs}
use Rattle.dayline_text.proofs.first_line.pairs_opened.Goals as goal
use Rattle.dayline_text.proofs.first_line.pairs_opened.Goals.{After-as_chunks}

pub returns-then-not-is_whole-clause-says : goal.returns-then-not-is_whole-clause-says
returns-then-not-is_whole-clause-says c = first_no _ (via c.is_whole.ensures c.if-not-is_whole.true)

pub loop-station-init : goal.loop-station-init
loop-station-init c = rw (c.new-stations.ensures, c.new-rows.ensures) (pairing_none _)

-- how many pairs are cut out
counted : (c : After-as_chunks) → (length c.as_chunks.result.0.now ≡ pairs (length c.args.numbers.now)) × (length c.as_chunks.result.0.now ≤ 32)
counted c = pairs_count c.args.numbers.now (via c.is_whole.ensures c.if-not-is_whole.false) (search (c.as_chunks.ensures.front_len))

pub push-requires : goal.push-requires
push-requires c =
    let few = (counted (goal.at.push-requires c).After-as_chunks).1 in
    let long = (pairing_long c.loop-station.invariant).0 in
    let below = c.loop-station-test.true in
    (search rules, omega (arith, few, long, below))

pub push-requires-in-loop-station : goal.push-requires-in-loop-station
push-requires-in-loop-station c =
    let few = (counted (goal.at.push-requires-in-loop-station c).After-as_chunks).1 in
    let long = (pairing_long c.loop-station.invariant).1 in
    let below = c.loop-station-test.true in
    (search rules, omega (arith, few, long, below))

pub loop-station-preserved : goal.loop-station-preserved
loop-station-preserved c =
    pairing_more c.args.numbers.now c.as_chunks.ensures.front c.as_chunks.ensures.front_len c.loop-station.invariant c.loop-station-test.true c.push.ensures
    c.push-in-loop-station.ensures c.narrow.ensures

pub returns-clause-says : goal.returns-clause-says
returns-clause-says c =
    let all = (counted (goal.at.returns-clause-says c).After-as_chunks).0 in
    let upto = c.loop-station.auto.station-index-end in
    let end = c.loop-station-test.false in
    first_yes (via c.is_whole.ensures c.if-not-is_whole.false) c.loop-station.invariant (omega (arith, all, upto, end))

pub returns-clause-few : goal.returns-clause-few
returns-clause-few c =
    let few = (counted (goal.at.returns-clause-few c).After-as_chunks).1 in
    let long = (pairing_long c.loop-station.invariant).0 in
    let upto = c.loop-station.auto.station-index-end in
    omega (arith, few, long, upto)
