-- What is compared, of any engine's runs: the calls that name the station, all of them and in their order ("The first call naming S is
-- compared with the first, the second with the second, and so on"); and of the run of these alone all that it answers.
--     naming_naming, log_naming, log_alone
-- Assumes nothing.
use mathlib.Core.Path.{◌≡◌, refl, ap}
use mathlib.Core.List.{List, [], ◌∷◌, map}
use Prim.Native.Nat.{ℕ}
use Rattle.laws.proofs.Bools.{Known, is_true, is_false, known}
use Rattle.rules.specs.Calls.{Call}
use Rattle.rules.specs.Runs.{Engine, Logged, log, names, naming, naming_log}

-- naming twice is naming once
pub naming_naming : (x : ℕ) (cs : List Call) → naming x (naming x cs) ≡ naming x cs
unfolding naming
naming_naming x [] = refl
naming_naming x (c ∷ cs) = go (known (names x c)) (naming_naming x cs)
  where
    go : Known (names x c) → naming x (naming x cs) ≡ naming x cs → naming x (naming x (c ∷ cs)) ≡ naming x (c ∷ cs)
    go (is_true e) r = rw e (rw e (ap (λ (ds : List Call). c ∷ ds) r))
    go (is_false e) r = rw e r

module _ (engine : Engine) (x : ℕ) where
  -- the calls of the log of those naming x are the calls naming x
  pub log_naming : (cs : List Call) (s : List ℕ) → map (λ (l : Logged). l.call) (naming_log x (log engine cs s)) ≡ naming x cs
  unfolding log naming_log naming
  log_naming [] s = refl
  log_naming (c ∷ cs) s = go (known (names x c)) (log_naming cs (engine c s).store)
    where
      go : Known (names x c) → map (λ (l : Logged). l.call) (naming_log x (log engine cs (engine c s).store)) ≡ naming x cs
          → map (λ (l : Logged). l.call) (naming_log x (log engine (c ∷ cs) s)) ≡ naming x (c ∷ cs)
      go (is_true e) r = rw e (ap (λ (ds : List Call). c ∷ ds) r)
      go (is_false e) r = rw e r

  -- in the run alone each call is compared
  pub log_alone : (cs : List Call) (s : List ℕ) → naming_log x (log engine (naming x cs) s) ≡ log engine (naming x cs) s
  unfolding log naming_log naming
  log_alone [] s = refl
  log_alone (c ∷ cs) s = go (known (names x c)) (log_alone cs)
    where
      go : Known (names x c) → ((t : List ℕ) → naming_log x (log engine (naming x cs) t) ≡ log engine (naming x cs) t)
          → naming_log x (log engine (naming x (c ∷ cs)) s) ≡ log engine (naming x (c ∷ cs)) s
      go (is_true e) r =
          rw e (rw e (ap (λ (ls : List Logged). record { call = c; answer = (engine c s).answer } ∷ ls) (r (engine c s).store)))
      go (is_false e) r = rw e (r s)
