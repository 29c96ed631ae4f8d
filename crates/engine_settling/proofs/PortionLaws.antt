-- The station that begin and a step make, as the code makes them.
--     begun_as, portion_as
-- Assumes nothing.
use mathlib.Core.Path.{◌≡◌, ◌∙◌, ap}
use mathlib.Core.Bool.{Bool}
use Prim.Native.Nat.{ℕ}
use Rattle.quality.specs.Limits.{warm}
use Rattle.quality.specs.Settled.{one_step}
use Rattle.quality.specs.declared.step.Step.{Step}
use Rattle.store_layout.specs.Model.{Block, Station}
use Rattle.store_layout.specs.Updates.{with_checked, with_copies, with_block}
use Rattle.rules.specs.Rules.{Date, copies, due, onward, cleared, copy_step, step_done, begun_station, portion}

pub begun_as : (t : Station) {b x : Block} → b ≡ t.block → x ≡ with_copies (λ h. h.dd) (with_checked b.raw b) → with_block x 2 t ≡ begun_station t
unfolding begun_station copy_step with_block
begun_as t r e = ap (λ (y : Block). with_block y 2 t) (e ∙ ap (λ (c : Block). with_copies (λ h. h.dd) (with_checked c.raw c)) r)

pub portion_as : (d : Date) (t : Station) {step : Step} {n m row : ℕ} {isWarm : Bool} {b x : Block}
    → step ≡ due n → n ≡ t.settled → m ≡ onward step n → row ≡ t.row → isWarm ≡ warm d.month → b ≡ t.block
    → x ≡ cleared step (with_checked (one_step step row isWarm (copies b) b.checked) b) → with_block x m t ≡ portion d t
unfolding portion step_done with_block
portion_as d t {step} s p q k w r e =
    let o : step ≡ due t.settled = s ∙ ap due p in
    λ i.
    with_block
    ((e ∙ (λ j. cleared (o j) (with_checked (one_step (o j) (k j) (w j) (copies (r j)) (r j).checked) (r j)))) i)
    ((q ∙ (λ j. onward (o j) (p j))) i)
    t
