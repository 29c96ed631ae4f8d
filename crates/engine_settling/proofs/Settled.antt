-- The station that settle makes, as the code makes it.
-- Assumes nothing.
use mathlib.Core.Path.{◌≡◌, sym, ◌∙◌, ap}
use mathlib.Core.Bool.{Bool}
use Prim.Native.Nat.{ℕ}
use Rattle.quality.specs.Limits.{warm}
use Rattle.quality.specs.Settled.{settled}
use Rattle.store_layout.specs.Model.{Block, Station}
use Rattle.store_layout.specs.Updates.{with_checked, with_copies, with_block}
use Rattle.rules.specs.Rules.{Date, directions, settled_station}
use Rattle.rules.proofs.Settling.{settled_at_once}

pub settled_as : (d : Date) (t : Station) {row : ℕ} {isWarm : Bool} {b x : Block} → row ≡ t.row → isWarm ≡ warm d.month → b ≡ t.block
    → x ≡ with_copies (λ h. 0) (with_checked (settled row isWarm (directions b) b.raw) b) → with_block x 1 t ≡ settled_station d t
settled_as d t p q r e =
    ap (λ (y : Block). with_block y 1 t) (e ∙ (λ i. with_copies (λ h. 0) (with_checked (settled (p i) (q i) (directions (r i)) (r i).raw) (r i))))
    ∙ sym (settled_at_once d t)
