-- `engine::reading::give_cell` meets its contract.
use mathlib.Core.Path.{◌≡◌, sym, ◌∙◌, ap}
use native.Mathlib.Omega.{arith}
use borrow.Author.Rules.{rules}
use lib.Dec.{leb}
use borrow.Author.Tests.{leb-true, eq-eqb, ne_eqb}
use Rattle.laws.proofs.Bools.{both}
use Rattle.quality.specs.Cell.{Cell, slot}
use Rattle.quality.specs.Elements.{column}
use Rattle.store_layout.specs.Model.{Block}
use Rattle.rules.specs.Calls.{a_cell}
use Rattle.rules.specs.Rules.{cell_of}
use Rattle.engine_answers.proofs.Stores.{at_index}
use Rattle.engine.proofs.reading.give_cell.Goals as goal

-- cells of one state, flag and value are one, whichever way the code made them
same_cell : (a b : Cell) → a.state ≡ b.state → a.flag ≡ b.flag → a.value ≡ b.value → a ≡ b
same_cell a b p q r = λ i. record { state = p i; flag = q i; value = r i }

pub cell_of-requires : goal.cell_of-requires
cell_of-requires c =
    let o = c.args in
    let w = both {a = leb o.element 8} {b = leb o.slot 8} c.if-not-within.false in
    (omega (arith, leb-true o.element 8 w.0), omega (arith, leb-true o.slot 8 w.1))

pub returns : goal.returns
unfolding cell_of
returns c =
    let o = c in
    rw (c.if-not-within.false, eq-eqb _ 1 (sym c.settled_of.ensures ∙ c.if-settled_of-ne1.false))
    (let e = c.cell_of.ensures ∙ ap (λ (x : Block). slot (column x.checked o.args.element) o.args.slot) c.block_of-block.ensures in
    ap a_cell (same_cell _ _ (ap (λ (d : Cell). d.state) e) (ap (λ (d : Cell). d.flag) e) (search (rules, ap (λ (d : Cell). d.value) e))))

pub returns-then-not-within : goal.returns-then-not-within
unfolding cell_of
returns-then-not-within c = rw c.if-not-within.true

pub settled_of-requires : goal.settled_of-requires
unfolding cell_of
settled_of-requires c = at_index c.requires

pub returns-then-settled_of-ne1 : goal.returns-then-settled_of-ne1
unfolding cell_of
returns-then-settled_of-ne1 c = rw (c.if-not-within.false, ne_eqb _ 1 (λ q. c.if-settled_of-ne1.true (c.settled_of.ensures ∙ q)))

pub block_of-block-requires : goal.block_of-block-requires
unfolding cell_of
block_of-block-requires c = at_index c.requires
