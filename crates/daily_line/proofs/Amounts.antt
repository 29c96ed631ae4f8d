-- The day's rain by the slots' numbers: a half of the day by iR and tR, the day by tR of slot 8.
-- Assumes nothing.
use mathlib.Core.Path.{◌≡◌, sym}
use mathlib.Core.Bool.{true, false, cond, ◌&&◌}
use mathlib.Core.List.{List}
use Rattle.std.specs.Prelude.{Option, None}
use Prim.Native.Nat.{ℕ}
use borrow.Author.Tests.{eq-eqb, ne_eqb}
use lib.Dec.{eqb}
use lib.IntN.{ℤ}
use Rattle.laws.proofs.Bools.{cond_true, cond_false, took, skip}
use Rattle.quality.specs.Cell.{Cell}
use Rattle.quality.specs.declared.head.SlotHead.{SlotHead}
use Rattle.daily.specs.Rain.{i_r, t_r, amount, is_nothing, together, half, rain_total}

-- ---- a half of the day, by iR and tR of the slot that ends it, tR of the slot six hours before, and the two amounts
module _ (i t u : ℕ) (a b : Option ℤ) where
  abbrev pub half_by : Option ℤ
  half_by =
      cond (eqb t 2) (cond (eqb i 3 && eqb u 1 && is_nothing b) a b) (cond (eqb u 1 && eqb t 1) (together a b) None)

  pub dry : t ≡ 2 → (eqb i 3 && eqb u 1) ≡ true → cond (is_nothing b) a b ≡ half_by
  dry p q = rw (p, q)

  pub alone : t ≡ 2 → (eqb i 3 && eqb u 1) ≡ false → b ≡ half_by
  alone p q = rw (p, q)

  pub two : (t ≡ 2 → ⊥) → (eqb u 1 && eqb t 1) ≡ true → together a b ≡ half_by
  two p q = skip _ _ _ _ (ne_eqb t 2 p) (took _ _ _ q)

  pub neither : (t ≡ 2 → ⊥) → (eqb u 1 && eqb t 1) ≡ false → None ≡ half_by
  neither p q = skip _ _ _ _ (ne_eqb t 2 p) (sym (cond_false _ _ _ q))

-- as the rule has it
pub half_as : (heads : List SlotHead) (rs : List Cell) (first last : ℕ) {i t u : ℕ} {a b : Option ℤ}
    → i ≡ i_r heads last → t ≡ t_r heads last → u ≡ t_r heads first → a ≡ amount rs first → b ≡ amount rs last
    → half_by i t u a b ≡ half heads rs first last
unfolding half
half_as heads rs first last p q r x y = λ j. half_by (p j) (q j) (r j) (x j) (y j)

-- ---- the day: slot 8's amount where its tR is 4, else the two halves
module _ (heads : List SlotHead) (rs : List Cell) where
  pub of_slot_8 : t_r heads 8 ≡ 4 → rain_total heads rs ≡ amount rs 8
  unfolding rain_total
  of_slot_8 e = cond_true _ _ _ (eq-eqb (t_r heads 8) 4 e)

  pub of_halves : (t_r heads 8 ≡ 4 → ⊥) → rain_total heads rs ≡ together (half heads rs 2 4) (half heads rs 6 8)
  unfolding rain_total
  of_halves e = cond_false _ _ _ (ne_eqb (t_r heads 8) 4 e)
