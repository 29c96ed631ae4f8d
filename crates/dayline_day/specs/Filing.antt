-- What the reports leave, filed one after the other, and what the code keeps of the one that is being read. Assumes nothing.
use Rattle.std.specs.Prelude.{◌≡◌, Bool, cond, List, [], ◌∷◌, ℕ, ◌+◌, min}
use Rattle.texts.specs.Written.{Holds}
use Rattle.rules.specs.Calls.{is_accepted, file}
use Rattle.rules.specs.Step.{step}
use Rattle.dayline_day.specs.declared.filing.Progress.{Progress}
use Rattle.dayline_day.specs.Reports.{reports, rest, all_blank, tail}

-- the bytes of the store, and the reports refused so far
pub record Tally : Type 0 where
  pub store : List ℕ
  pub refused : ℕ

-- one refused more, in 64 bits, which no run fills
abbrev pub more : ℕ → ℕ
more n = min (n + 1) 18446744073709551615

-- a report filed
unfoldable pub filing : List ℕ → Tally → Tally
filing report t =
    let o = step (file report 0) t.store in
    record { store = o.store; refused = cond (is_accepted o.answer) t.refused (more t.refused) }

-- reports filed in order
unfoldable pub filings : List (List ℕ) → Tally → Tally
filings [] t = t
filings (r ∷ rs) t = filings rs (filing r t)

-- one report, and those of a tail, were filed in the store s with n refused before: the bytes t and the number m are what that leaves
abbrev pub Filed : List ℕ → List ℕ → ℕ → List ℕ → ℕ → Type 0
Filed report s n t m = record { store = t; refused = m } ≡ filing report (record { store = s; refused = n })

abbrev pub Ended : List ℕ → List ℕ → ℕ → List ℕ → ℕ → Type 0
Ended run s n t m = record { store = t; refused = m } ≡ filings (tail run) (record { store = s; refused = n })

-- what the code has of a report of which `run` is read: its first 513 bytes, and whether all of it is blank
pub record Under (run : List ℕ) (p : Progress) : Type 0 where
  pub keeps : Holds 513 p.kept.items run
  pub blank : p.blank ≡ all_blank run

-- the bytes s are read after `run`: the code has what is read of the report under way, and the whole ones are filed
pub record Fed (run s : List ℕ) (t : Tally) (p : Progress) (store : List ℕ) : Type 0 where
  pub under : Under (rest run s) p
  pub tally : record { store = store; refused = p.refused } ≡ filings (reports run s) t

-- the same of every `run` that the code may have read
pub record Feeds (s : List ℕ) (p : Progress) (store : List ℕ) (p' : Progress) (store' : List ℕ) : Type 0 where
  pub fed : (run : List ℕ) → Under run p → Fed run s (record { store = store; refused = p.refused }) p' store'

-- what the code has of a report, but for whether all of it is blank, which is said anew
abbrev pub marked : Bool → Progress → Progress
marked c p = record { kept = p.kept; blank = c; refused = p.refused }

-- before the first byte
pub record Begun (p : Progress) : Type 0 where
  pub held : p.kept.items ≡ []
  pub under : Under [] p
  pub none : p.refused ≡ 0
