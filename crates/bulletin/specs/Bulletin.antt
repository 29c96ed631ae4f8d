-- What a bulletin answers and leaves: "It does what filing each with that heading .. does in order, and counts accepted and refused."
-- Assumes nothing.
use Rattle.std.specs.Prelude.{◌≡◌, Bool, true, false, cond, ◌&&◌, List, [], ◌∷◌, ℕ, ◌+◌, ◌≤◌, leb, length, drop, Ok, Err}
use Rattle.std.specs.Prelude as prelude
use Rattle.refusals.specs.declared.Refusal.{Refusal}
use Rattle.refusals.specs.Refusals.{number}
use Rattle.synop_text.specs.declared.Characters.{Characters}
use Rattle.store_layout.specs.Form.{Form, ours}
use Rattle.store_layout.specs.Sound.{sound}
use Rattle.store_layout.specs.Valid.{is_rank}
use Rattle.rules.specs.Calls.{is_accepted, file}
use Rattle.rules.specs.Step.{step_in}
use Rattle.bulletin.specs.Pieces.{parted, none}
use Rattle.bulletin.specs.Heading.{heading_in}
use Rattle.bulletin.specs.Rebuilt.{heading, rebuilt}
use Rattle.bulletin.specs.declared.Tally.{Tally}

-- the store and the counts so far
pub record Counts : Type 0 where
  pub store : List ℕ
  pub accepted : ℕ
  pub refused : ℕ

-- one report answered
abbrev pub counted : Bool → List ℕ → Counts → Counts
counted b s t = record { store = s; accepted = t.accepted + cond b 1 0; refused = t.refused + cond b 0 1 }

-- "A tail without `=` is one report refused 1, unless it is blank."
abbrev pub tail : List (List ℕ) → Counts → Counts
tail gs t = cond (none gs) t (counted false t.store t)

-- the answer, and the bytes of the store at exit
pub data Answered : Type 0 where
  whole : ℕ → Answered
  counts : ℕ → ℕ → Answered

pub record Result : Type 0 where
  pub answer : Answered
  pub store : List ℕ

abbrev pub unchanged : ℕ → List ℕ → Result
unchanged n s = record { answer = whole n; store = s }

abbrev pub told : Counts → Result
told t = record { answer = counts t.accepted t.refused; store = t.store }

-- before the first report
abbrev pub at_first : List ℕ → Counts
at_first s = record { store = s; accepted = 0; refused = 0 }

module _ (form : Form) where
  -- S-3: "Bulletins take one rank for all their reports."
  module _ (rank : ℕ) where
    -- a report filed with the heading, and counted
    unfoldable pub filing : List ℕ → List (List ℕ) → Counts → Counts
    filing head gs t =
        let o = step_in form (file (rebuilt head gs) rank) t.store in
        counted (is_accepted o.answer) o.store t

    -- the reports in order, and last the tail
    unfoldable pub filings : List ℕ → List (List (List ℕ)) → Counts → Counts
    filings head [] t = t
    filings head (gs ∷ []) t = tail gs t
    filings head (gs ∷ hs ∷ more) t = filings head (hs ∷ more) (filing head gs t)

    abbrev pub under : prelude.Result Characters Refusal → List (List (List ℕ)) → List ℕ → Result
    under (Err r) ps s = unchanged (number r) s
    under (Ok x) ps s = told (filings (heading x) ps (at_first s))

    -- the heading is the first two groups of the first piece, and the reports stand behind it
    unfoldable pub headed : List (List (List ℕ)) → List ℕ → Result
    headed [] s = unchanged 3 s
    headed (gs ∷ more) s = under (heading_in gs) (drop 2 gs ∷ more) s

    -- "At most 16384 bytes"; "1 for length 0 or too long, 3 or 4 for the heading"
    unfoldable pub taken : List ℕ → List ℕ → Result
    taken s text = cond (leb 1 (length text) && leb (length text) 16384) (headed (parted text) s) (unchanged 1 s)

  -- "Refused whole: 9, then 1 .., 3 or 4"; S-3: 13 for "a rank above 24 .. is tested right after 9 (a bulletin is then refused whole)"
  unfoldable pub result_in : List ℕ → List ℕ → ℕ → Result
  result_in s text rank = cond (form.sound s) (cond (is_rank rank) (taken rank s text) (unchanged 13 s)) (unchanged 9 s)

-- on our bytes
abbrev pub result : List ℕ → List ℕ → ℕ → Result
result = result_in ours

-- what the code's answer says
abbrev pub answered : prelude.Result Tally Refusal → Answered
answered (Ok t) = counts t.accepted t.refused
answered (Err r) = whole (number r)

pub record Gave (r : Result) (a : prelude.Result Tally Refusal) (t : List ℕ) : Type 0 where
  pub answer : answered a ≡ r.answer
  pub left : t ≡ r.store

-- the counts and the bytes that the reports left
pub record Tallied (t : Counts) (a r : ℕ) (s : List ℕ) : Type 0 where
  pub accepted : a ≡ t.accepted
  pub refused : r ≡ t.refused
  pub left : s ≡ t.store

-- the text of the reports is not too long, the store is sound, and the rank is one
pub record Ready (s text : List ℕ) (rank : ℕ) : Type 0 where
  pub sound : sound s ≡ true
  pub short : length text ≤ 16384
  pub ranked : is_rank rank ≡ true
