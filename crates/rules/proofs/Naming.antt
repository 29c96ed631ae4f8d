-- Whom a call names.
--     named_by_text   a text names its station at any rank, also at one above 24, which is refused 13
--     picked          the calls of a list that name a station, call by call
-- Assumes nothing.
use mathlib.Core.Path.{◌≡◌, refl, ◌∙◌, ap}
use mathlib.Core.Bool.{Bool, true, false, cond}
use mathlib.Core.List.{List, [], ◌∷◌}
use Prim.Native.Nat.{ℕ}
use Rattle.laws.proofs.Bools.{cond_true, cond_false}
use Rattle.store_layout.specs.Valid.{is_rank}
use Rattle.synop.specs.Report.{Report, report}
use Rattle.rules.specs.Calls.{Call, Ask, unnamed, named, denied, ask_file, deny, ranked}
use Rattle.rules.specs.Runs.{asks, names, naming}
use Rattle.rules.specs.Naming.{is_of, NamedByText}

asks_ranked : (rank : ℕ) (q : Ask) (x : ℕ) → asks (ranked rank q) x ≡ asks q x
asks_ranked rank q x = go (is_rank rank) q
  where
    go : (b : Bool) (q : Ask) → asks (cond b q (deny 13 q)) x ≡ asks q x
    go true q = refl
    go false (unnamed n) = refl
    go false (named y request) = refl
    go false (denied y n) = refl

asks_file : (rank : ℕ) (r : Report) (x : ℕ) → asks (ask_file rank r) x ≡ is_of r x
asks_file rank (Report.refused n) x = refl
asks_file rank (Report.nil h) x = refl
asks_file rank (Report.whole h head values) x = refl

pub named_by_text : NamedByText
named_by_text =
    record { at_any_rank = λ text rank x. asks_ranked rank (ask_file rank (report text)) x ∙ asks_file rank (report text) x }

-- of a list of calls those are picked that name x: `picked` says that these are the ones
pub data Picks (x : ℕ) : List Call → List Call → Type 0 where
  none : Picks x [] []
  keep : {c : Call} {cs ds : List Call} → names x c ≡ true → Picks x cs ds → Picks x (c ∷ cs) (c ∷ ds)
  pass : {c : Call} {cs ds : List Call} → names x c ≡ false → Picks x cs ds → Picks x (c ∷ cs) ds

pub picked : (x : ℕ) {cs ds : List Call} → Picks x cs ds → naming x cs ≡ ds
unfolding naming
picked x none = refl
picked x (keep {c} e p) = cond_true _ _ _ e ∙ ap (λ (l : List Call). c ∷ l) (picked x p)
picked x (pass e p) = cond_false _ _ _ e ∙ picked x p
