-- A bulletin as calls: "It does what filing each with that heading .. does in order". So what is proved of runs of calls holds also where
-- some of their reports come in bulletins.
-- Assumes nothing.
use Rattle.std.specs.Prelude.{◌≡◌, cond, ◌&&◌, List, [], ◌∷◌, ℕ, leb, length, drop, Result, Ok, Err}
use Rattle.rules.specs.Calls.{Call, file}
use Rattle.rules.specs.Step.{step}
use Rattle.rules.specs.Runs.{left}
use Rattle.bulletin.specs.Pieces.{parted}
use Rattle.bulletin.specs.Heading.{heading_in}
use Rattle.bulletin.specs.Rebuilt.{heading, rebuilt}
use Rattle.refusals.specs.declared.Refusal.{Refusal}
use Rattle.synop_text.specs.declared.Characters.{Characters}
use Rattle.bulletin.specs.Bulletin.{result}

module _ (rank : ℕ) where
  -- the filings of the reports in order; what stands behind the last `=` is no report
  unfoldable pub report_calls : List ℕ → List (List (List ℕ)) → List Call
  report_calls head [] = []
  report_calls head (gs ∷ []) = []
  report_calls head (gs ∷ hs ∷ more) = file (rebuilt head gs) rank ∷ report_calls head (hs ∷ more)

  abbrev pub calls_under : Result Characters Refusal → List (List (List ℕ)) → List Call
  calls_under (Err r) ps = []
  calls_under (Ok x) ps = report_calls (heading x) ps

  unfoldable pub headed_calls : List (List (List ℕ)) → List Call
  headed_calls [] = []
  headed_calls (gs ∷ more) = calls_under (heading_in gs) (drop 2 gs ∷ more)

-- the filings that a bulletin of a rank is
unfoldable pub bulletin_calls : List ℕ → ℕ → List Call
bulletin_calls text rank = cond (leb 1 (length text) && leb (length text) 16384) (headed_calls rank (parted text)) []

-- on every buffer it leaves the bytes that these leave
pub record AsCalls : Type 0 where
  pub store : (s text : List ℕ) (rank : ℕ) → (result s text rank).store ≡ left step (bulletin_calls text rank) s
