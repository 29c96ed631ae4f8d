-- A run as a station sees it: the calls that name it, from the date and the station alone. Every run on a store that holds the station
-- shows this, so any two runs show the same.
--     own_log, own_end       the station's own calls with their answers, and the station at the end
--     shows                what any run shows of it
-- Assumes nothing.
use mathlib.Core.Path.{◌≡◌, refl, ap₂}
use mathlib.Core.List.{List, [], ◌∷◌}
use Prim.Native.Nat.{ℕ}
use Rattle.laws.proofs.Bools.{Known, is_true, is_false, known}
use Rattle.store_layout.specs.Model.{Station}
use Rattle.rules.specs.Calls.{Call, Answer, ask}
use Rattle.rules.specs.Rules.{Date}
use Rattle.rules.specs.Step.{step}
use Rattle.rules.specs.Runs.{Logged, log, left, names, naming, naming_log}
use Rattle.rules.proofs.Kept.{AllLawful, done_by}
use Rattle.rules.proofs.Holding.{HoldsStation, answer_of, station_of, answer_own, holds_own, holds_other}

unfoldable pub own_log : Date → Station → List Call → List Logged
own_log d t [] = []
own_log d t (c ∷ cs) =
    record { call = c; answer = answer_of (done_by d (ask c) t) } ∷ own_log d (station_of (done_by d (ask c) t) t) cs

unfoldable pub own_end : Date → Station → List Call → Station
own_end d t [] = t
own_end d t (c ∷ cs) = own_end d (station_of (done_by d (ask c) t) t) cs

-- a run from s of a store that holds the station t shows of it no more than its own calls do
pub record Shows (d : Date) (x : ℕ) (t : Station) (s : List ℕ) (cs : List Call) : Type 0 where
  pub answers : naming_log x (log step cs s) ≡ own_log d t (naming x cs)
  pub holds : HoldsStation d x (own_end d t (naming x cs)) (left step cs s)

pub shows : AllLawful → {d : Date} {x : ℕ} {t : Station} {s : List ℕ} (cs : List Call) → HoldsStation d x t s → Shows d x t s cs
unfolding log left naming_log naming own_log own_end
shows lawful [] h = record { answers = refl; holds = h }
shows lawful {d} {x} {t} {s} (c ∷ cs) h = go (known (names x c)) (λ u k. shows lawful {t = u} {s = (step c s).store} cs k)
  where
    go : Known (names x c) → ((u : Station) → HoldsStation d x u (step c s).store → Shows d x u (step c s).store cs) → Shows d x t s (c ∷ cs)
    go (is_true e) r =
        let q = r (station_of (done_by d (ask c) t) t) (holds_own h lawful c e) in
        record { answers = rw e (ap₂ (λ (a : Answer) (ls : List Logged). record { call = c; answer = a } ∷ ls) (answer_own h c e) q.answers); holds = rw e q.holds }
    go (is_false e) r =
        let q = r t (holds_other h lawful c e) in
        record { answers = rw e q.answers; holds = rw e q.holds }
