-- Soundness and the search for a station, in one answer.
-- Assumes nothing.
use Rattle.std.specs.Prelude.{cond, List, ℕ, Option, Some, None, Result, Err, ok_or}
use Rattle.refusals.specs.declared.Refusal.{Refusal}
use Rattle.refusals.specs.declared.Refusal.TheVariants.{Unsound, UnknownStation}
use Rattle.store_layout.specs.Layout.{decode}
use Rattle.store_layout.specs.Sound.{sound}
use Rattle.store_layout.specs.Index.{Index, nowhere, index, index_in, numbers}

-- an index in a sound store, as the code's answer
abbrev pub placed : Index → Option ℕ
placed nowhere = None
placed (index i) = Some i

-- "9 unsound store", "6 station not in the store", or the station's index
unfoldable pub located : List ℕ → ℕ → Result ℕ Refusal
located s station = cond (sound s) (ok_or (placed (index_in (numbers (decode s)) station)) UnknownStation) (Err Unsound)
