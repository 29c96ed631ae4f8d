-- "A filed text names S exactly if it passes checks 1 to 5 and its IIiii is S." That looks at the text alone: S-3's rank plays no part.
-- Assumes nothing.
use Rattle.std.specs.Prelude.{◌≡◌, Bool, false, List, ℕ, eqb}
use Rattle.synop.specs.Report.{Report, report}
use Rattle.rules.specs.Calls.{file}
use Rattle.rules.specs.Runs.{names}

-- a text read: it passes, and its IIiii is x
abbrev pub is_of : Report → ℕ → Bool
is_of (Report.refused n) x = false
is_of (Report.nil h) x = eqb h.station x
is_of (Report.whole h head values) x = eqb h.station x

-- a text names x at every rank, also at one above 24, or at none
pub record NamedByText : Type 0 where
  pub at_any_rank : (text : List ℕ) (rank x : ℕ) → names x (file text rank) ≡ is_of (report text) x
