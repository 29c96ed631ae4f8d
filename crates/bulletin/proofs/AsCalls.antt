-- A bulletin leaves what the filings of its reports leave.
--     as_calls
-- Assumes nothing.
use mathlib.Core.Path.{◌≡◌, refl, sym, ◌∙◌, ap}
use mathlib.Core.Bool.{Bool, true, false, cond, ◌&&◌}
use mathlib.Core.List.{List, [], ◌∷◌}
use Prim.Native.Nat.{ℕ}
use lib.Dec.{leb}
use lib.ListN.{length, drop}
use Rattle.laws.proofs.Bools.{Known, is_true, is_false, known}
use Rattle.store_layout.specs.Form.{ours}
use Rattle.store_layout.specs.Sound.{sound}
use Rattle.store_layout.specs.Valid.{is_rank}
use Rattle.rules.specs.Calls.{file}
use Rattle.rules.specs.Step.{Outcome, step}
use Rattle.rules.specs.Runs.{left}
use Rattle.engine_answers.proofs.Outcomes.{step_unsound}
use Rattle.engine_filing.proofs.Filed.{file_high}
use Rattle.bulletin.specs.Pieces.{parted, none}
use Rattle.bulletin.specs.Heading.{heading_in}
use Rattle.bulletin.specs.Rebuilt.{heading, rebuilt}
use Rattle.refusals.specs.declared.Refusal.{Refusal}
use Rattle.std.specs.Prelude as prelude
use Rattle.std.specs.Prelude.{Ok, Err}
use Rattle.synop_text.specs.declared.Characters.{Characters}
use Rattle.bulletin.specs.Bulletin.{Counts, counted, filing, filings, at_first, under, headed, taken, result_in}
use Rattle.bulletin.specs.Filings.{report_calls, calls_under, headed_calls, bulletin_calls, AsCalls}

-- ---- what each report leaves
tail_keeps : (b : Bool) (t : Counts) → (cond b t (counted false t.store t)).store ≡ t.store
tail_keeps true t = refl
tail_keeps false t = refl

module _ (rank : ℕ) where
  reports_left : (head : List ℕ) (ps : List (List (List ℕ))) (t : Counts) → (filings ours rank head ps t).store ≡ left step (report_calls rank head ps) t.store
  unfolding filings filing report_calls left
  reports_left head [] t = refl
  reports_left head (gs ∷ []) t = tail_keeps (none gs) t
  reports_left head (gs ∷ hs ∷ more) t = reports_left head (hs ∷ more) (filing ours rank head gs t)

  under_left : (h : prelude.Result Characters Refusal) (ps : List (List (List ℕ))) (s : List ℕ) → (under ours rank h ps s).store ≡ left step (calls_under rank h ps) s
  unfolding left
  under_left (Err n) ps s = refl
  under_left (Ok x) ps s = reports_left (heading x) ps (at_first s)

  headed_left : (ps : List (List (List ℕ))) (s : List ℕ) → (headed ours rank ps s).store ≡ left step (headed_calls rank ps) s
  unfolding headed headed_calls left
  headed_left [] s = refl
  headed_left (gs ∷ more) s = under_left (heading_in gs) (drop 2 gs ∷ more) s

  taken_left : (s text : List ℕ) → (taken ours rank s text).store ≡ left step (bulletin_calls text rank) s
  unfolding taken bulletin_calls left
  taken_left s text = go (leb 1 (length text) && leb (length text) 16384)
    where
      go : (b : Bool) → (cond b (headed ours rank (parted text) s) (record { answer = Rattle.bulletin.specs.Bulletin.whole 1; store = s })).store
          ≡ left step (cond b (headed_calls rank (parted text)) []) s
      go true = headed_left (parted text) s
      go false = refl

  -- ---- where no report can be filed
  module _ (s : List ℕ) (h : (text : List ℕ) → (step (file text rank) s).store ≡ s) where
    none_filed : (head : List ℕ) (ps : List (List (List ℕ))) → left step (report_calls rank head ps) s ≡ s
    unfolding report_calls left
    none_filed head [] = refl
    none_filed head (gs ∷ []) = refl
    none_filed head (gs ∷ hs ∷ more) = ap (left step (report_calls rank head (hs ∷ more))) (h (rebuilt head gs)) ∙ none_filed head (hs ∷ more)

    none_under : (t : prelude.Result Characters Refusal) (ps : List (List (List ℕ))) → left step (calls_under rank t ps) s ≡ s
    unfolding left
    none_under (Err n) ps = refl
    none_under (Ok x) ps = none_filed (heading x) ps

    none_headed : (ps : List (List (List ℕ))) → left step (headed_calls rank ps) s ≡ s
    unfolding headed_calls left
    none_headed [] = refl
    none_headed (gs ∷ more) = none_under (heading_in gs) (drop 2 gs ∷ more)

    none_left : (text : List ℕ) → left step (bulletin_calls text rank) s ≡ s
    unfolding bulletin_calls left
    none_left text = go (leb 1 (length text) && leb (length text) 16384)
      where
        go : (b : Bool) → left step (cond b (headed_calls rank (parted text)) []) s ≡ s
        go true = none_headed (parted text)
        go false = refl

pub as_calls : AsCalls
unfolding result_in
as_calls = record { store = λ s text rank. go s text rank (known (sound s)) (known (is_rank rank)) }
  where
    go : (s text : List ℕ) (rank : ℕ) → Known (sound s) → Known (is_rank rank) → (result_in ours s text rank).store ≡ left step (bulletin_calls text rank) s
    go s text rank (is_false f) r = rw f (sym (none_left rank s (λ t. ap (λ (o : Outcome). o.store) (step_unsound (file t rank) s f)) text))
    go s text rank (is_true e) (is_true r) = rw (e, r) (taken_left rank s text)
    go s text rank (is_true e) (is_false r) =
        rw (e, r) (sym (none_left rank s (λ t. ap (λ (o : Outcome). o.store) (file_high t rank s e r)) text))
