-- Laws of soundness: the order in which the code makes the tests.
-- Assumes nothing.
use mathlib.Core.Path.{◌≡◌}
use mathlib.Core.Bool.{false, true, ◌&&◌, and_assoc}
use mathlib.Core.List.{List}
use Prim.Native.Nat.{ℕ, ◌-◌, ◌<◌}
use native.Mathlib.Omega.{arith}
use lib.ListN.{length}
use Rattle.laws.specs.All.{all}
use Rattle.laws.proofs.Bools.{is_true, is_false, known}
use Rattle.store_layout.specs.Layout.{word, count_at, header_length, store_length}
use Rattle.store_layout.specs.Sound.{sound_station, sound_order, sound_header, sound}
use Rattle.store_layout.proofs.Soundness.{header_parts, sound_framed}

-- the header, and then the stations
pub sound_in_turn : (s : List ℕ)
    → sound s ≡ (sound_header s && (all (sound_station s (word s count_at)) (word s count_at) && all (sound_order s) (word s count_at - 1)))
unfolding sound
sound_in_turn s = and_assoc (sound_header s) _ _

-- a buffer shorter than the header is not sound
pub short : (s : List ℕ) → length s < header_length → sound s ≡ false
short s h =
    elim (known (sound s)) [
      | is_true t ↦ absurd (let e = (sound_framed s t).long in omega arith)
      | is_false f ↦ f
    ]

-- a sound header tells the buffer's length
pub header_long : (s : List ℕ) → sound_header s ≡ true → length s ≡ store_length (word s count_at)
header_long s e = (header_parts s e).framed.long
