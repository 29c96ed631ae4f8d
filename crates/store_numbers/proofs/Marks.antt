-- The settled number's two bytes stored.
-- Assumes nothing.
use mathlib.Core.Path.{◌≡◌, ◌∙◌, ap}
use mathlib.Core.List.{List}
use Prim.Native.Nat.{ℕ, ◌+◌, ◌<◌}
use lib.Seq.{sets}
use Rattle.store_layout.specs.Layout.{word, word_bytes, count_at, entry_at, settled_in, decode}
use Rattle.store_layout.specs.Framed.{Framed}
use Rattle.store_layout.proofs.StationWrites.{decode_mark_write}
use Rattle.store_numbers.specs.Marked.{Marked}

pub marked : (s t : List ℕ) (i v : ℕ) → Framed s → i < word s count_at → t ≡ sets s (entry_at i + settled_in) (word_bytes v) → Marked s i v t
marked s t i v f l w = record { model = ap decode w ∙ decode_mark_write s f i l v; bytes = w }
