-- S-6, "Filing while settling runs": the one-call settle beside begin and four steps, and what a settling in portions comes to while other
-- calls are made in between.
-- Assumes nothing.
use Rattle.std.specs.Prelude.{◌≡◌, Bool, true, false, cond, ◌&&◌, List, [], ◌∷◌, map, ℕ, suc, eqb}
use Rattle.quality.specs.Limits.{warm}
use Rattle.quality.specs.Settled.{settled}
use Rattle.store_layout.specs.Framed.{Bytes}
use Rattle.store_layout.specs.Index.{Index, nowhere, index, index_in, numbers}
use Rattle.store_layout.specs.Layout.{decode}
use Rattle.store_layout.specs.Model.{Station, Store, empty_station, station_at}
use Rattle.rules.specs.Calls.{Call, settle, begin, step, Answer, accepted, is_accepted, Request, take_nil, take, settling, beginning, stepping, give_cell, give_day, Ask, unnamed, named, denied, ask}
use Rattle.rules.specs.Rules.{directions}
use Rattle.rules.specs.Runs.{Engine, Logged, log, left}

-- ---- what calls are to a station's settling
-- another begin or settle of the station; a step call; a report but NIL
abbrev pub is_restart : Request → Bool
is_restart (take_nil yy gg rank) = false
is_restart (take yy gg rank head values) = false
is_restart settling = true
is_restart beginning = true
is_restart stepping = false
is_restart (give_cell e k) = false
is_restart give_day = false

abbrev pub is_stepping : Request → Bool
is_stepping (take_nil yy gg rank) = false
is_stepping (take yy gg rank head values) = false
is_stepping settling = false
is_stepping beginning = false
is_stepping stepping = true
is_stepping (give_cell e k) = false
is_stepping give_day = false

abbrev pub is_report : Request → Bool
is_report (take_nil yy gg rank) = false
is_report (take yy gg rank head values) = true
is_report settling = false
is_report beginning = false
is_report stepping = false
is_report (give_cell e k) = false
is_report give_day = false

-- what is asked is such a request of the station x
abbrev pub of_station : (Request → Bool) → ℕ → Ask → Bool
of_station p x (unnamed n) = false
of_station p x (named y request) = eqb y x && p request
of_station p x (denied y n) = false

-- a call of a log is such a request of x, and was accepted
abbrev pub granted : (Request → Bool) → ℕ → Logged → Bool
granted p x l = of_station p x (ask l.call) && is_accepted l.answer

-- how many calls of a log are; whether one is
unfoldable pub count : (Logged → Bool) → List Logged → ℕ
count p [] = 0
count p (l ∷ ls) = cond (p l) (suc (count p ls)) (count p ls)

unfoldable pub some : (Logged → Bool) → List Logged → Bool
some p [] = false
some p (l ∷ ls) = cond (p l) true (some p ls)

-- no other begin or settle of x stands in a list of calls
unfoldable pub undisturbed : ℕ → List Call → Bool
undisturbed x [] = true
undisturbed x (c ∷ cs) = cond (of_station is_restart x (ask c)) false (undisturbed x cs)

-- the station x that a store's bytes hold
abbrev pub station_for : Index → Store → Station
station_for nowhere m = empty_station
station_for (index i) m = station_at m.stations i

unfoldable pub station_in : ℕ → List ℕ → Station
station_in x s = station_for (index_in (numbers (decode s)) x) (decode s)

-- begin and four steps of x; five times the same answer
abbrev pub portions : ℕ → List Call
portions x = begin x ∷ step x ∷ step x ∷ step x ∷ step x ∷ []

abbrev pub five_of : Answer → List Answer
five_of a = a ∷ a ∷ a ∷ a ∷ a ∷ []

module _ (engine : Engine) where
  -- "The one-call settle equals begin and four steps, and drops a settling under way": on every buffer of bytes and every station, whatever
  -- its settled number, settle leaves the very bytes that begin and four steps leave, and each of the five calls answers as settle does
  pub record AtOnce : Type 0 where
    pub store : (x : ℕ) (s : List ℕ) → Bytes s → left engine (portions x) s ≡ (engine (settle x) s).store
    pub answers : (x : ℕ) (s : List ℕ) → Bytes s → map (λ (l : Logged). l.answer) (log engine (portions x) s) ≡ five_of (engine (settle x) s).answer

  -- x was settled in portions: begun on s, then the calls cs were made, then a fourth step
  pub record Ends (x : ℕ) (s : List ℕ) (cs : List Call) : Type 0 where
    -- "four step calls then do range, internal, time and fill, one each"
    pub fourth : (engine (step x) (left engine (begin x ∷ cs) s)).answer ≡ accepted
    -- "When the fourth step ends, the checked cells are those of the raw cells and dd at begin"
    pub checked : (station_in x (engine (step x) (left engine (begin x ∷ cs) s)).store).block.checked
        ≡ settled (station_in x s).row (warm (decode s).month) (directions (station_in x s).block) (station_in x s).block.raw
    -- "and S is settled exactly if no report for S but NIL was accepted since"
    pub mark : (station_in x (engine (step x) (left engine (begin x ∷ cs) s)).store).settled
        ≡ cond (some (granted is_report x) (log engine cs (engine (begin x) s).store)) 0 1

  -- so it ends from an accepted begin on, whatever calls are made in between: reports for x and others, alone or of bulletins (which leave what
  -- their filings leave: `bulletin/specs/Filings`), other stations' calls, refused ones; but no other begin or settle of x, and three steps of
  -- x that are accepted
  pub record InPortions : Type 0 where
    pub ends : (x : ℕ) (s : List ℕ) (cs : List Call) → Bytes s → (engine (begin x) s).answer ≡ accepted → undisturbed x cs ≡ true
        → count (granted is_stepping x) (log engine cs (engine (begin x) s).store) ≡ 3
        → Ends x s cs
