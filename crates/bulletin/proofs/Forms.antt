-- A bulletin in two byte forms: report by report the counts stay the same and the stores correspond.
--     same_bulletins
-- Assumes nothing.
use mathlib.Core.Path.{◌≡◌, refl, ap, ap₂}
use mathlib.Core.Bool.{Bool, true, false, cond, ◌&&◌}
use mathlib.Core.List.{List, [], ◌∷◌}
use Prim.Native.Nat.{ℕ, ◌+◌}
use lib.Dec.{leb}
use lib.ListN.{length, drop}
use Rattle.laws.proofs.Bools.{cond_true, cond_false}
use Rattle.store_layout.specs.Form.{Form, ours, LawfulForm, Corresponding, AnyTwoForms}
use Rattle.store_layout.specs.Valid.{is_rank}
use Rattle.store_layout.proofs.Forms.{ours_lawful}
use Rattle.rules.specs.Calls.{Answer, is_accepted, file}
use Rattle.rules.proofs.Kept.{AllLawful}
use Rattle.rules.proofs.Requests.{all_lawful}
use Rattle.rules.proofs.Reports.{report_bounds}
use Rattle.rules.proofs.Forms.{same_answer, same_store}
use Rattle.rules.proofs.FormExamples.{padded, padded_lawful}
use Rattle.bulletin.specs.Pieces.{parted, none}
use Rattle.bulletin.specs.Heading.{heading_in}
use Rattle.bulletin.specs.Rebuilt.{heading, rebuilt}
use Rattle.refusals.specs.declared.Refusal.{Refusal}
use Rattle.refusals.specs.Refusals.{number}
use Rattle.std.specs.Prelude as prelude
use Rattle.std.specs.Prelude.{Ok, Err}
use Rattle.synop_text.specs.declared.Characters.{Characters}
use Rattle.bulletin.specs.Bulletin.{Counts, counted, filing, filings, at_first, Result, counts, unchanged, under, headed, taken, result_in}
use Rattle.bulletin.specs.Forms.{SameBulletins}

module _ (form : Form) (s text : List ℕ) (rank : ℕ) where
  result_unsound : form.sound s ≡ false → result_in form s text rank ≡ unchanged 9 s
  unfolding result_in
  result_unsound e = cond_false _ _ _ e

  result_sound : form.sound s ≡ true
      → result_in form s text rank
      ≡ cond (is_rank rank) (cond (leb 1 (length text) && leb (length text) 16384) (headed form rank (parted text) s) (unchanged 1 s)) (unchanged 13 s)
  unfolding result_in taken
  result_sound e = cond_true _ _ _ e

module _ (rules : AllLawful) (f g : Form) (p : LawfulForm f) (q : LawfulForm g) (rank : ℕ) where
  record SameCounts (x y : Counts) : Type 0 where
    stores : Corresponding f g x.store y.store
    accepted : x.accepted ≡ y.accepted
    refused : x.refused ≡ y.refused

  record SameResult (x y : Result) : Type 0 where
    answer : x.answer ≡ y.answer
    stores : Corresponding f g x.store y.store

  same_filing : (head : List ℕ) (gs : List (List ℕ)) (x y : Counts) → SameCounts x y → SameCounts (filing f rank head gs x) (filing g rank head gs y)
  unfolding filing
  same_filing head gs x y a =
      let e = same_answer rules f g p q (file (rebuilt head gs) rank) x.store y.store a.stores in
      record {
        stores = same_store rules f g p q (file (rebuilt head gs) rank) x.store y.store a.stores;
        accepted = ap₂ (λ (n : ℕ) (z : Answer). n + cond (is_accepted z) 1 0) a.accepted e;
        refused = ap₂ (λ (n : ℕ) (z : Answer). n + cond (is_accepted z) 0 1) a.refused e;
      }

  same_tail : (b : Bool) (x y : Counts) → SameCounts x y → SameCounts (cond b x (counted false x.store x)) (cond b y (counted false y.store y))
  same_tail true x y a = a
  same_tail false x y a =
      record { stores = a.stores; accepted = ap (λ (n : ℕ). n + 0) a.accepted; refused = ap (λ (n : ℕ). n + 1) a.refused }

  same_filings : (head : List ℕ) (ps : List (List (List ℕ))) (x y : Counts) → SameCounts x y → SameCounts (filings f rank head ps x) (filings g rank head ps y)
  unfolding filings
  same_filings head [] x y a = a
  same_filings head (gs ∷ []) x y a = same_tail (none gs) x y a
  same_filings head (gs ∷ hs ∷ more) x y a =
      same_filings head (hs ∷ more) (filing f rank head gs x) (filing g rank head gs y) (same_filing head gs x y a)

  module _ (s t : List ℕ) (a : Corresponding f g s t) where
    refused_whole : (n : ℕ) → SameResult (unchanged n s) (unchanged n t)
    refused_whole n = record { answer = refl; stores = a }

    same_under : (h : prelude.Result Characters Refusal) (ps : List (List (List ℕ))) → SameResult (under f rank h ps s) (under g rank h ps t)
    same_under (Err n) ps = refused_whole (number n)
    same_under (Ok x) ps =
        let k = same_filings (heading x) ps (at_first s) (at_first t) (record { stores = a; accepted = refl; refused = refl }) in
        record { answer = ap₂ counts k.accepted k.refused; stores = k.stores }

    same_headed : (ps : List (List (List ℕ))) → SameResult (headed f rank ps s) (headed g rank ps t)
    unfolding headed
    same_headed [] = refused_whole 3
    same_headed (gs ∷ more) = same_under (heading_in gs) (drop 2 gs ∷ more)

    same_result : (text : List ℕ) → SameResult (result_in f s text rank) (result_in g t text rank)
    same_result text =
        rw (result_sound f s text rank a.first.sound, result_sound g t text rank a.second.sound)
        (go (is_rank rank) (leb 1 (length text) && leb (length text) 16384))
      where
        go : (r b : Bool)
            → SameResult (cond r (cond b (headed f rank (parted text) s) (unchanged 1 s)) (unchanged 13 s))
            (cond r (cond b (headed g rank (parted text) t) (unchanged 1 t)) (unchanged 13 t))
        go false b = refused_whole 13
        go true true = same_headed (parted text)
        go true false = refused_whole 1

pub same_bulletins : AnyTwoForms SameBulletins
same_bulletins f g p q =
    record {
      answer = λ text rank s t a. (same_result (all_lawful report_bounds) f g p q rank s t a text).answer;
      store = λ text rank s t a. (same_result (all_lawful report_bounds) f g p q rank s t a text).stores;
      unsound = λ text rank s e. result_unsound f s text rank e;
      unsound_second = λ text rank t e. result_unsound g t text rank e;
    }

-- for example: ours against the form with one byte more
ours_padded : SameBulletins ours (padded ours)
ours_padded = same_bulletins ours (padded ours) ours_lawful (padded_lawful ours ours_lawful)
