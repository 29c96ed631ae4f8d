-- `quality_columns::time_column` meets its contract.
use mathlib.Core.Path.{◌∙◌}
use Prim.Native.Nat.{ℕ, zero, suc, ◌<◌}
use native.Mathlib.Omega.{arith}
use borrow.Author.Rules.{rules}
use Rattle.laws.proofs.Calls.{tabled}
use Rattle.quality.specs.Cell.{none}
use Rattle.quality.specs.Coded.{cells}
use Rattle.quality.specs.Steps.{time_cell, between}
use Rattle.quality.proofs.Between.{ruled}
use Rattle.quality_columns.proofs.time_column.Goals as goal

-- what holds at each of the nine slots: slot by slot a search sees what the code computes there, whatever made it
at_each : (P : ℕ → Type 0) → P 0 → P 1 → P 2 → P 3 → P 4 → P 5 → P 6 → P 7 → P 8 → (k : ℕ) → k < 9 → P k
at_each P a b c d e f g h i zero l = a
at_each P a b c d e f g h i (suc zero) l = b
at_each P a b c d e f g h i (suc (suc zero)) l = c
at_each P a b c d e f g h i (suc (suc (suc zero))) l = d
at_each P a b c d e f g h i (suc (suc (suc (suc zero)))) l = e
at_each P a b c d e f g h i (suc (suc (suc (suc (suc zero))))) l = f
at_each P a b c d e f g h i (suc (suc (suc (suc (suc (suc zero)))))) l = g
at_each P a b c d e f g h i (suc (suc (suc (suc (suc (suc (suc zero))))))) l = h
at_each P a b c d e f g h i (suc (suc (suc (suc (suc (suc (suc (suc zero)))))))) l = i
at_each P a b c d e f g h i (suc (suc (suc (suc (suc (suc (suc (suc (suc k))))))))) l = absurd (omega arith)

pub returns : goal.returns
unfolding between
returns c =
    let a = c.args in
    c.of.ensures
    ∙ tabled _ _ (ruled (time_cell a.mends) (cells a.c)) 9
    (at_each _ (λ r q s. search rules) (λ r q s. search rules) (λ r q s. search rules) (λ r q s. search rules) (λ r q s. search rules)
    (λ r q s. search rules) (λ r q s. search rules) (λ r q s. search rules) (λ r q s. search rules))
    _ none c.from_fn-timed.ensures.items
