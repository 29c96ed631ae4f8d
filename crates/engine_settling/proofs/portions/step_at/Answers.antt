-- `engine_settling::portions::step_at` meets its contract.
use Rattle.store_layout.specs.Layout.{decode}
use Rattle.store_layout.specs.Model.{station_at}
use Rattle.rules.specs.Rules.{rule}
use mathlib.Core.Path.{refl}
use borrow.Author.Tests.{le-leb, lt-leb}
use native.Mathlib.Omega.{arith}
use Rattle.engine_answers.proofs.Stores as Stores
use Rattle.engine_settling.proofs.portions.step_at.Goals as goal

pub returns-then-settled-lt2 : goal.returns-then-settled-lt2
unfolding rule
returns-then-settled-lt2 c =
    let o = c in
    rw (lt-leb 2 (station_at (decode o.args.store.now).stations o.args.index).settled (omega (arith, c.settled_of-settled.ensures, c.if-settled-lt2.true))) (record { answer = refl; left = refl })

pub portion_at-requires : goal.portion_at-requires
portion_at-requires c = record { station = c.requires; settled_value = c.settled_of-settled.ensures }

pub returns : goal.returns
unfolding rule
returns c =
    let o = c in
    rw (le-leb 2 (station_at (decode o.args.store.now).stations o.args.index).settled (omega (arith, c.settled_of-settled.ensures, c.if-settled-lt2.false))) (record { answer = refl; left = c.portion_at.ensures })

pub settled_of-settled-requires : goal.settled_of-settled-requires
settled_of-settled-requires c = Stores.at_index c.requires
