-- `store_soundness::blocks::are_nine` meets its contract.
use mathlib.Core.Path.{refl, ◌∙◌}
use mathlib.Core.Bool.{Bool}
use Prim.Native.Nat.{ℕ, ◌+◌, ◌*◌}
use borrow.Author.Rules.{rules}
use borrow.Author.Tests.{tests}
use Rattle.std.proofs.lemmas.Iterator.{YieldsList-from_range}
use Rattle.std.proofs.lemmas.Iterator.Search.{all_from_yields_List}
use Rattle.store_layout.specs.Layout.{cell_length}
use Rattle.store_layout.specs.Sound.{sound_cell}
use Rattle.store_numbers.proofs.Passed.{all_in_range}
use Rattle.store_soundness.proofs.blocks.are_nine.Goals as goal

pub returns : goal.returns
returns c =
    let a = c.args in
    let test : ℕ → Bool = λ e. sound_cell a.limits.states a.limits.flags e a.store.now (a.at + cell_length * e) in
    all_from_yields_List test _ _ c.all.result c.all.ensures.ran (YieldsList-from_range 0 9 _ refl refl) (λ x b q d. search (rules, tests))
    ∙ all_in_range test 9
