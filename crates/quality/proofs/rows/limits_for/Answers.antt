-- `quality::rows::limits_for` meets its contract: the row at 4e + 2r + s is that of element e, climate row r and season s.
use mathlib.Core.Path.{◌≡◌, ◌∙◌}
use mathlib.Core.Bool.{Bool, true, false}
use Prim.Native.Nat.{ℕ, ◌+◌, ◌*◌, ◌/◌, ◌%◌, ◌<◌}
use native.Mathlib.Omega.{arith}
use borrow.Author.Tests.{eq-eqb, ne_eqb}
use lib.Dec.{eqb}
use denote.Enum.Declared.{tag_of}
use Rattle.quality.specs.contracts.limits.Climate as climate
use Rattle.quality.specs.contracts.limits.Season as season
use Rattle.quality.specs.declared.limits.Climate.{Climate}
use Rattle.quality.specs.declared.limits.Climate.TheVariants.{Lowland, Hill}
use Rattle.quality.specs.declared.limits.Season.{Season}
use Rattle.quality.specs.declared.limits.Season.TheVariants.{Cold, Warm}
use Rattle.quality.specs.Limits.{limits, row_of, is_warm}
use Rattle.quality.specs.Rows.{row_limits}
use Rattle.quality.proofs.rows.limits_for.Goals as goal

same : (i e r : ℕ) (s : Bool) → i / 4 ≡ e → i / 2 % 2 ≡ r → eqb (i % 2) 1 ≡ s → row_limits i ≡ limits e r s
same i e r s p q t = rw (p, q, t)

module _ (e : ℕ) where
  warm : (r : ℕ) → r < 2 → row_limits (e * 4 + r * 2 + 1) ≡ limits e r true
  warm r h = same (e * 4 + r * 2 + 1) e r true (omega arith) (omega arith) (eq-eqb ((e * 4 + r * 2 + 1) % 2) 1 (omega arith))

  cold : (r : ℕ) → r < 2 → row_limits (e * 4 + r * 2 + 0) ≡ limits e r false
  cold r h = same (e * 4 + r * 2 + 0) e r false (omega arith) (omega arith) (ne_eqb ((e * 4 + r * 2 + 0) % 2) 1 (λ q. omega arith))

  row_at : (c : Climate) (s : Season)
      → row_limits (e * 4 + tag_of climate.the_type c * 2 + tag_of season.the_type s) ≡ limits e (row_of c) (is_warm s)
  row_at Lowland Cold = cold 0 (omega arith)
  row_at Lowland Warm = warm 0 (omega arith)
  row_at Hill Cold = cold 1 (omega arith)
  row_at Hill Warm = warm 1 (omega arith)

pub returns : goal.returns
returns c = let a = c.args in c.limits_row.ensures ∙ row_at a.element a.climate a.season
