-- The vapour pressure's cell from what the lookup answers.
-- Assumes nothing.
use mathlib.Core.Path.{◌≡◌, ◌∙◌, ap}
use mathlib.Core.Bool.{true}
use mathlib.Core.List.{List, map}
use Rattle.std.specs.Prelude.{Option}
use Prim.Native.Nat.{ℕ, ◌+◌, ◌*◌, ◌/◌, ◌<◌, ◌≤◌}
use native.Mathlib.Nat.{mul-le-mul_left}
use lib.IntN.{ℤ, pos, nat_abs}
use lib.ListN.{length, get_or, length-map}
use Rattle.laws.proofs.Maps.{map_at}
use Rattle.vapour.specs.Vapour.{pressure}
use Rattle.quality.specs.Cell.{Cell, is_humidity, none, slot}
use Rattle.quality.specs.Elements.{dew_point}
use Rattle.quality.specs.Valid.{ValidCell}
use Rattle.quality.proofs.Humidity.{humidity}
use Rattle.daily.specs.Means.{share}

-- the share of an entry that a humidity of u percent makes of it
module _ (d : Cell) (e u : ℕ) (w : ValidCell dew_point d) (h : is_humidity d ≡ true) (q : u ≡ nat_abs d.value) where
  pub product_most : e * u ≤ e * 100
  product_most = rw q (mul-le-mul_left e (humidity dew_point d w h).most)

  pub shared : (e * u + 50) / 100 ≡ share d e
  shared = rw (q, h)

-- the answer at slot k, of the nine that nine values get
pub at_slot : (bs : List Cell) (vs : List ℤ) (ps : List (Option ℕ)) (k : ℕ) (z : Option ℕ) → vs ≡ map (λ (b : Cell). b.value) bs → ps ≡ map pressure vs
    → k < length bs → get_or ps k z ≡ pressure (slot bs k).value
at_slot bs vs ps k z e h l =
    let m : k < length vs = rw (e, length-map bs (λ (b : Cell). b.value)) l in
    ap (λ (os : List (Option ℕ)). get_or os k z) h ∙ map_at pressure vs k (pos 0) z m
    ∙ ap pressure (ap (λ (zs : List ℤ). get_or zs k (pos 0)) e ∙ map_at (λ (b : Cell). b.value) bs k none (pos 0) l)
