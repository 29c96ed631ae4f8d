-- A report of a rank in a slot: refused where the slot has a higher rank or is filed with that rank, else put there.
--     above, already, free
-- The station that this makes, as the code makes it.
--     filed_as
-- Assumes nothing.
use mathlib.Core.Path.{◌≡◌, refl, sym, ◌∙◌, ap, ap₂}
use mathlib.Core.Bool.{Bool, true, false, cond, ◌&&◌}
use mathlib.Core.List.{List}
use Prim.Native.Nat.{ℕ, ◌<◌, ◌≤◌}
use borrow.Author.Tests.{lt-ltb, le-ltb}
use lib.Dec.{ltb, eqb}
use Rattle.synop_values.specs.Value.{Value}
use Rattle.store_layout.specs.Model.{Block, Station, head_of}
use Rattle.quality.specs.declared.head.SlotHead.{SlotHead}
use Rattle.store_layout.specs.Updates.{with_slot, with_block}
use Rattle.synop.specs.declared.contents.Indicators.{Indicators}
use Rattle.rules.specs.Calls.{refused}
use Rattle.rules.specs.Rules.{Effect, keeps, makes, filed_head, filed_cells, reported, filed, file_at}

-- by the head that it has, as the code looks at it: its rank higher than this one, or filed with this one
module _ (k rank : ℕ) (head : Indicators) (values : List Value) (t : Station) {old : SlotHead} (e : old ≡ head_of t.block k) where
  abbrev by_tests : Bool → Bool → Effect
  by_tests above same = cond above (keeps (refused 13)) (cond same (keeps (refused 8)) (makes (filed k rank head values t)))

  rule_as : {a b : Bool} → ltb rank old.rank ≡ a → (eqb old.filed 1 && eqb rank old.rank) ≡ b → file_at k rank head values t ≡ by_tests a b
  unfolding file_at
  rule_as p q =
      ap (λ (h : SlotHead). by_tests (ltb rank h.rank) (eqb h.filed 1 && eqb rank h.rank)) (sym e) ∙ ap₂ by_tests p q

  pub above : rank < old.rank → file_at k rank head values t ≡ keeps (refused 13)
  above p = rule_as (lt-ltb rank old.rank p) refl

  module _ (p : old.rank ≤ rank) where
    pub already : (eqb old.filed 1 && eqb rank old.rank) ≡ true → file_at k rank head values t ≡ keeps (refused 8)
    already = rule_as (le-ltb rank old.rank p)

    pub free : (eqb old.filed 1 && eqb rank old.rank) ≡ false → file_at k rank head values t ≡ makes (filed k rank head values t)
    free = rule_as (le-ltb rank old.rank p)

pub filed_as : (k rank : ℕ) (head : Indicators) (values : List Value) (t : Station) {n m : ℕ} {b x : Block} → n ≡ t.settled → m ≡ reported n
    → b ≡ t.block → x ≡ with_slot k (filed_head k rank (head_of b k).copy head) (filed_cells k head values) b
    → with_block x m t ≡ filed k rank head values t
unfolding filed
filed_as k rank head values t p q r e =
    ap₂ (λ (y : Block) (o : ℕ). with_block y o t)
    (e ∙ ap (λ (c : Block). with_slot k (filed_head k rank (head_of c k).copy head) (filed_cells k head values) c) r)
    (q ∙ ap reported p)
