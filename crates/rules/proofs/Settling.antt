-- Settling by its steps: what they leave together, and that each leaves a valid station valid.
--     settled_at_once      the four steps, one after the other, are the checked sheet made at once from the raw one
--     portions_settle      begin and four portions make what settling makes
--     kept_copy, kept_step, kept_copies, kept_mark, kept_settled, kept_begun, kept_portion
-- Assumes nothing.
use mathlib.Core.Path.{◌≡◌, refl, sym, ◌∙◌, ap}
use mathlib.Core.Bool.{true, ◌||◌}
use mathlib.Core.List.{List, [], ◌∷◌, map}
use Prim.Native.Nat.{ℕ, suc, ◌≤◌}
use native.Mathlib.Omega.{arith}
use borrow.Author.Tests.{leb-true, le-leb, eqb-true}
use lib.Dec.{eqb, lit≤}
use Rattle.laws.proofs.Bools.{Known, is_true, is_false, known, by_cond}
use Rattle.quality.specs.Cell.{Cell}
use Rattle.quality.specs.Limits.{warm}
use Rattle.quality.specs.Settled.{settled, one_step}
use Rattle.quality.specs.Valid.{ValidSheet}
use Rattle.quality.specs.declared.head.SlotHead.{SlotHead}
use Rattle.quality.specs.declared.step.Step.{Step}
use Rattle.quality.specs.declared.step.Step.TheVariants.{Range, Internal, Time, Fill}
use Rattle.quality.proofs.Validity.{raw_sheet_valid, range_keeps, internal_keeps, time_keeps, fill_keeps}
use Rattle.store_layout.specs.Model.{Station}
use Rattle.store_layout.specs.Valid.{is_under_way, is_copy, ValidHead, ValidStation}
use Rattle.store_layout.specs.Updates.{with_checked, with_copy, with_copies, with_block}
use Rattle.store_layout.proofs.Validity.{head_parts, entry_parts, valid_marked, valid_with_checked, valid_with_copies}
use Rattle.rules.specs.Rules.{Date, directions, copies, with_mark, with_copies_mark, copy_step, step_done, settled_station, begun_station, due, onward, gone_on, portion}
use Rattle.rules.proofs.Kept.{Kept, kept_on, kept_block}

pub settled_at_once : (d : Date) (t : Station)
    → settled_station d t
    ≡ with_block (with_copies (λ h. 0) (with_checked (settled t.row (warm d.month) (directions t.block) t.block.raw) t.block)) 1 t
unfolding settled_station copy_step step_done settled with_block with_checked
settled_at_once d t = refl

-- ---- begin and four portions
-- each slot's dd is read of its copy
pub copies_begun : (hs : List SlotHead) → map (λ (h : SlotHead). h.copy) (map (with_copy (λ h. h.dd)) hs) ≡ map (λ (h : SlotHead). h.dd) hs
copies_begun [] = refl
copies_begun (h ∷ hs) = ap (λ (ns : List ℕ). h.dd ∷ ns) (copies_begun hs)

-- and in the end no copy shows
copies_ended : (f : SlotHead → ℕ) (hs : List SlotHead) → map (with_copy (λ h. 0)) (map (with_copy f) hs) ≡ map (with_copy (λ h. 0)) hs
copies_ended f [] = refl
copies_ended f (h ∷ hs) = ap (λ (gs : List SlotHead). with_copy (λ h. 0) h ∷ gs) (copies_ended f hs)

pub portions_settle : (d : Date) (t : Station) → portion d (portion d (portion d (portion d (begun_station t)))) ≡ settled_station d t
unfolding settled_station begun_station portion copy_step step_done with_block with_checked with_copies
portions_settle d t =
    let b = t.block in
    rw (copies_begun b.heads, copies_ended (λ h. h.dd) b.heads)

-- ---- each keeps a station
kept_sheet : {sheet : List (List Cell)} (t : Station) → ValidStation t → ValidSheet sheet → Kept t (with_block (with_checked sheet t.block) t.settled t)
kept_sheet t v w = kept_block _ t.settled t v (valid_with_checked _ t.block v.block w) (entry_parts v.entry).settled_most

pub kept_copy : (t : Station) → ValidStation t → Kept t (copy_step t)
unfolding copy_step
kept_copy t v = kept_sheet t v (raw_sheet_valid t.block.raw v.block.raw)

pub kept_step : (step : Step) (d : Date) (dds : List ℕ) (t : Station) → ValidStation t → Kept t (step_done step d dds t)
unfolding step_done
kept_step step d dds t v = kept_sheet t v (sheet step)
  where
    sheet : (step : Step) → ValidSheet (one_step step t.row (warm d.month) dds t.block.checked)
    sheet Range = range_keeps t.row (warm d.month) t.block.checked v.block.checked
    sheet Internal = internal_keeps dds t.block.checked v.block.checked
    sheet Time = time_keeps t.block.checked v.block.checked
    sheet Fill = fill_keeps t.block.checked v.block.checked

pub kept_copies : (f : SlotHead → ℕ) (n : ℕ) (t : Station) → n ≤ 9 → ((h : SlotHead) → ValidHead t.settled h → is_copy n (f h) ≡ true)
    → ValidStation t → Kept t (with_copies_mark f n t)
kept_copies f n t l e v = kept_block _ n t v (valid_with_copies t.settled n f t.block e v.block) l

pub kept_mark : (n : ℕ) (t : Station) → n ≤ 9 → is_under_way t.settled ≡ is_under_way n → ValidStation t → Kept t (with_mark n t)
kept_mark n t l e v = kept_block t.block n t v (valid_marked n t.block e v.block) l

pub kept_settled : (d : Date) (t : Station) → ValidStation t → Kept t (settled_station d t)
unfolding settled_station
kept_settled d t v =
    let dds = directions t.block in
    kept_on (kept_on (kept_on (kept_on (kept_on (kept_copy t v) (kept_step Range d dds _)) (kept_step Internal d dds _)) (kept_step Time d dds _)) (kept_step Fill d dds _))
    (kept_copies (λ h. 0) 1 _ (lit≤ tt) (λ h w. refl))

pub kept_begun : (t : Station) → ValidStation t → Kept t (begun_station t)
unfolding begun_station
kept_begun t v =
    kept_on (kept_copy t v) (kept_copies (λ h. h.dd) 2 (copy_step t) (lit≤ tt) (λ h w. (head_parts {settled = (copy_step t).settled} h w).dd))

-- ---- the step that is due
-- one of two numbers
either : (n a b most : ℕ) → (eqb n a || eqb n b) ≡ true → a ≤ most → b ≤ most → n ≤ most
either n a b most e l m = go (known (eqb n a))
  where
    go : Known (eqb n a) → n ≤ most
    go (is_true t) = omega (arith, eqb-true n a t)
    go (is_false f) = omega (arith, eqb-true n b (rw f at e))

module _ (d : Date) (t : Station) (w : is_under_way t.settled ≡ true) where
  -- the station after the step that is due, still under the same settled number
  abbrev stepped : Station
  stepped = step_done (due t.settled) d (copies t.block) t

  next : t.settled ≤ 8 → ValidStation stepped → Kept stepped (with_mark (suc t.settled) stepped)
  unfolding step_done with_block
  next l v =
      kept_mark (suc t.settled) stepped (omega arith) (w ∙ sym (le-leb 2 (suc t.settled) (omega (arith, leb-true 2 t.settled w)))) v

  last : ValidStation stepped → Kept stepped (with_copies_mark (λ h. 0) (onward Fill t.settled) stepped)
  last v =
      by_cond (λ (m : ℕ). Kept stepped (with_copies_mark (λ h. 0) m stepped)) (eqb t.settled 5)
      (λ e. kept_copies (λ h. 0) _ stepped (lit≤ tt) (λ h y. refl) v)
      (λ e. kept_copies (λ h. 0) _ stepped (lit≤ tt) (λ h y. refl) v)

  gone : ValidStation stepped → Kept stepped (gone_on (due t.settled) t.settled stepped)
  gone v =
      let n = t.settled in
      let Gone : Step → Type 0 = λ s. Kept stepped (gone_on s n stepped) in
      by_cond Gone (eqb n 2 || eqb n 6) (λ e. next (either n 2 6 8 e (lit≤ tt) (lit≤ tt)) v)
      (λ z. by_cond Gone (eqb n 3 || eqb n 7) (λ e. next (either n 3 7 8 e (lit≤ tt) (lit≤ tt)) v)
      (λ z. by_cond Gone (eqb n 4 || eqb n 8) (λ e. next (either n 4 8 8 e (lit≤ tt) (lit≤ tt)) v) (λ z. last v)))

  pub kept_portion : ValidStation t → Kept t (portion d t)
  unfolding portion
  kept_portion v = kept_on (kept_step (due t.settled) d (copies t.block) t v) gone
