-- A rule on a cell and its neighbours in time, slot by slot.
--     ruled                what the rule leaves at a slot
-- A loop that puts the rule on slots 1 to 7, one store a turn, reading the column that it began with.
--     start, more, whole   before the first turn; one more store; after the last, the column is the rule's
-- Assumes nothing.
use mathlib.Core.Path.{◌≡◌, refl, sym, ◌∙◌}
use mathlib.Core.Bool.{cond, ◌&&◌}
use mathlib.Core.List.{List}
use Prim.Native.Nat.{ℕ, ◌+◌, ◌-◌, ◌<◌, ◌≤◌}
use native.Mathlib.Decide.{ℕ_discrete}
use native.Mathlib.Omega.{arith}
use borrow.Author.Count.{below_more}
use borrow.Author.Tests.{le-leb, lt-leb}
use lib.Dec.{leb}
use lib.ListN.{length, set, length-set}
use lib.Seq.{get_or-set_same, get_or-set_other}
use Rattle.laws.proofs.Bools.{cond_true, cond_false, and_true, and_false_right}
use Rattle.laws.proofs.Tables.{is_table}
use Rattle.quality.specs.Cell.{Cell, slot, none}
use Rattle.quality.specs.Steps.{between}

-- a rule at equal cells
pub ap₃ : (f : Cell → Cell → Cell → Cell) {a a' x x' b b' : Cell} → a ≡ a' → x ≡ x' → b ≡ b' → f a x b ≡ f a' x' b'
ap₃ f p q r = λ i. f (p i) (q i) (r i)

module _ (rule : Cell → Cell → Cell → Cell) (xs : List Cell) where
  -- what the rule leaves at slot k
  abbrev pub ruled : ℕ → Cell
  ruled k = cond (leb 1 k && leb k 7) (rule (slot xs (k - 1)) (slot xs k) (slot xs (k + 1))) (slot xs k)

  pub inside : (k : ℕ) → 1 ≤ k → k ≤ 7 → ruled k ≡ rule (slot xs (k - 1)) (slot xs k) (slot xs (k + 1))
  inside k l h = cond_true _ _ _ (and_true (leb 1 k) (leb k 7) (le-leb 1 k l) (le-leb k 7 h))

  pub after : (k : ℕ) → 7 < k → ruled k ≡ slot xs k
  after k h = cond_false _ _ _ (and_false_right (leb 1 k) (leb k 7) (lt-leb k 7 h))

  -- ys has the rule's cells below slot k, and those of xs from there on
  pub record Moved (ys : List Cell) (k : ℕ) : Type 0 where
    pub from : 1 ≤ k
    pub upto : k ≤ 8
    pub long : length ys ≡ 9
    pub past : (j : ℕ) → j < k → slot ys j ≡ ruled j
    pub rest : (j : ℕ) → k ≤ j → slot ys j ≡ slot xs j

  pub start : length xs ≡ 9 → Moved xs 1
  start e =
      record {
        from = omega arith;
        upto = omega arith;
        long = e;
        past = λ j l. first j (omega arith);
        rest = λ j l. refl;
      }
    where
      first : (j : ℕ) → j ≡ 0 → slot xs j ≡ ruled j
      first j q = rw q

  pub more : (ys : List Cell) (k : ℕ) (v : Cell) → Moved ys k → k < 8 → v ≡ rule (slot xs (k - 1)) (slot xs k) (slot xs (k + 1)) → Moved (set ys k v) (k + 1)
  more ys k v m h e =
      record {
        from = omega arith;
        upto = omega arith;
        long = length-set ys k v ∙ m.long;
        past =
            below_more (λ j. slot (set ys k v) j ≡ ruled j) k (λ j l. get_or-set_other ys k j v none (less j k l) ∙ m.past j l)
            (get_or-set_same ys k v none within ∙ e ∙ sym (inside k m.from (omega arith)));
        rest = λ j l. get_or-set_other ys k j v none (above j k l) ∙ m.rest j (omega arith);
      }
    where
      less : (j k : ℕ) → j < k → j ≡ k → ⊥
      less j k l q = omega arith

      above : (j k : ℕ) → k + 1 ≤ j → j ≡ k → ⊥
      above j k l q = omega arith

      within : k < length ys
      within = let l : length ys ≡ 9 = m.long in omega arith

  pub whole : (ys : List Cell) (k : ℕ) → Moved ys k → 8 ≤ k → ys ≡ between rule xs
  unfolding between
  whole ys k m h = is_table 9 ruled ys none m.long (λ j l. at j l (ℕ_discrete j 8))
    where
      at : (j : ℕ) → j < 9 → Dec (j ≡ 8) → slot ys j ≡ ruled j
      at j l (yes q) = m.rest j (let u : k ≤ 8 = m.upto in omega arith) ∙ sym (after j (omega arith))
      at j l (no n) = m.past j (omega arith)
