-- A report filed from what is kept of it, and the reports of a text filed as it is read.
-- Assumes nothing.
use mathlib.Core.Path.{◌≡◌, refl, sym, ◌∙◌, ap, ap₂, subst}
use mathlib.Core.Bool.{Bool, true, false, ◌&&◌, cond}
use mathlib.Core.List.{List, [], ◌∷◌, ◌++◌}
use Prim.Native.Nat.{ℕ, ◌+◌, ◌<◌, ◌≤◌}
use native.Mathlib.Numerals.{add-one}
use lib.ListN.{length, take, get_or}
use lib.Seq.{take_all, take-nil, take-suc}
use Rattle.laws.proofs.Bools.{and_eq}
use Rattle.store_layout.specs.Layout.{decode}
use Rattle.store_layout.specs.Sound.{sound}
use Rattle.synop.specs.Report.{Report}
use Rattle.rules.specs.Calls.{Answer, refused, accepted, is_accepted, file, ask_file}
use Rattle.rules.proofs.Reports.{cut_report}
use Rattle.rules.specs.Step.{Outcome, unchanged, step_in, asked, step}
use Rattle.engine_answers.specs.Replies.{Did, reply}
use Rattle.refusals.specs.Refusals.{number}
use Rattle.refusals.specs.declared.Refusal.{Refusal}
use Rattle.std.specs.Prelude.{Result, Ok, Err}
use Rattle.std.specs.Result.{is_err}
use Rattle.texts.specs.Few.{Few}
use Rattle.texts.specs.Written.{Holds, Adds}
use Rattle.texts.proofs.Writing.{holds_more}
use Rattle.dayline_text.specs.Cuts.{is_blank}
use Rattle.dayline_day.specs.declared.filing.Progress.{Progress}
use Rattle.dayline_day.specs.Reports.{reports, rest, all_blank, tail, input_reports}
use Rattle.dayline_day.specs.Filing.{Tally, more, filing, filings, Filed, Ended, Under, Feeds, marked, Begun}
use Rattle.dayline_day.proofs.Cutting.{reports_none, rest_none, reports_end, rest_end, reports_on, rest_on, rest_two, reports_two, blank_none, blank_more}

-- ---- what is kept of a report does for the whole
step_cut : (s t : List ℕ) → step (file (take 513 t) 0) s ≡ step (file t 0) s
unfolding step_in
step_cut s t = ap (λ (r : Report). cond (sound s) (asked (ask_file 0 r) (decode s) s) (unchanged (refused 9) s)) (cut_report t)

module _ (s kept run : List ℕ) (v : Holds 513 kept run) where
  step_kept : step (file kept 0) s ≡ step (file run 0) s
  step_kept = ap (λ (t : List ℕ). step (file t 0) s) v ∙ step_cut s run

  answered : (n : ℕ) (a : Answer) (t : List ℕ) (m : ℕ) → Did (step (file kept 0) s) a t → m ≡ cond (is_accepted a) n (more n) → Filed run s n t m
  unfolding filing
  answered n a t m d e =
      ap₂ (λ (x : List ℕ) (y : ℕ). record { store = x; refused = y }) (d.left ∙ ap (λ (o : Outcome). o.store) step_kept)
      (e ∙ ap (λ (x : Answer). cond (is_accepted x) n (more n)) (d.answer ∙ ap (λ (o : Outcome). o.answer) step_kept))

  -- r is the code's answer on the bytes that are lent, and one refused is counted
  pub filed : {lent t : List ℕ} {m : ℕ} {b : Bool} (n : ℕ) → lent ≡ kept → (r : Result (Unit {0}) Refusal) → Did (step (file lent 0) s) (reply r) t
      → b ≡ is_err r → m ≡ cond b (more n) n → Filed run s n t m
  filed {t = t} {m} n k (Ok u) d e f = answered n accepted t m (rw k at d) (rw e at f)
  filed {t = t} {m} n k (Err r) d e f = answered n (refused (number r)) t m (rw k at d) (rw e at f)

-- ---- reports filed in order
filings_none : (t : Tally) → t ≡ filings [] t
unfolding filings
filings_none t = refl

filings_one : (r : List ℕ) (t : Tally) → filing r t ≡ filings (r ∷ []) t
unfolding filings
filings_one r t = refl

filings_two : (rs qs : List (List ℕ)) (t : Tally) → filings (rs ++ qs) t ≡ filings qs (filings rs t)
unfolding filings
filings_two [] qs t = refl
filings_two (r ∷ rs) qs t = filings_two rs qs (filing r t)

-- ---- the start
pub anew : (p : Progress) → p.kept.items ≡ [] → p.blank ≡ true → Under [] p
anew p e f = record { keeps = e ∙ sym (take-nil 513); blank = f ∙ sym blank_none }

-- the next report begins, whatever is kept of whether it is blank
pub fresh : {p : Progress} → Under [] p → Under [] (marked true p)
fresh u = record { keeps = u.keeps; blank = sym blank_none }

pub begun : (p : Progress) → p.kept.items ≡ [] → p.blank ≡ true → p.refused ≡ 0 → Begun p
begun p e f g = record { held = e; under = anew p e f; none = g }

-- ---- one byte
module _ {p : Progress} {store : List ℕ} (b : ℕ) {new : List ℕ} (f : Adds 513 p.kept.items new (b ∷ [])) where
  -- the report is whole
  pub byte_end : b ≡ 61 → (p' : Progress) (t : List ℕ) → ((run : List ℕ) → Holds 513 new run → Filed run store p.refused t p'.refused)
      → Under [] p' → Feeds (b ∷ []) p store p' t
  byte_end e p' t g u' =
      record {
        fed = λ run u.
            record {
              under = rw (rest_end run b e) u';
              tally = rw (reports_end run b e) (g (run ++ b ∷ []) (holds_more run u.keeps f) ∙ filings_one (run ++ b ∷ []) _);
            };
      }

  -- it goes on
  pub byte_on : (b ≡ 61 → ⊥) → (kept : Few ℕ) → kept.items ≡ new → (c : Bool) → c ≡ is_blank b
      → Feeds (b ∷ []) p store (record { kept = kept; blank = p.blank && c; refused = p.refused }) store
  byte_on e kept k c q =
      record {
        fed = λ run u.
            record {
              under = rw (rest_on run b e) (record { keeps = k ∙ holds_more run u.keeps f; blank = and_eq u.blank q ∙ blank_more run b });
              tally = rw (reports_on run b e) (filings_none _);
            };
      }

-- ---- the first i bytes of a piece
pub record Feeding (s : List ℕ) (p : Progress) (store : List ℕ) (p' : Progress) (store' : List ℕ) (i : ℕ) : Type 0 where
  pub long : length store' ≡ length store
  pub feeds : Feeds (take i s) p store p' store'

pub feeding_none : (s : List ℕ) (p : Progress) (store : List ℕ) → Feeding s p store p store 0
feeding_none s p store =
    record {
      long = refl;
      feeds = record { fed = λ run u. record { under = rw (rest_none run) u; tally = rw (reports_none run) (filings_none _) } };
    }

feeds_two : {s t : List ℕ} {p : Progress} {store : List ℕ} {p₁ : Progress} {store₁ : List ℕ} {p₂ : Progress} {store₂ : List ℕ}
    → Feeds s p store p₁ store₁ → Feeds t p₁ store₁ p₂ store₂ → Feeds (s ++ t) p store p₂ store₂
feeds_two {s} {t} v w =
    record {
      fed = λ run u.
          let x = v.fed run u in
          let y = w.fed (rest run s) x.under in
          record {
            under = rw (rest_two run s t) y.under;
            tally =
                rw (reports_two run s t)
                (y.tally ∙ ap (filings (reports (rest run s) t)) x.tally ∙ sym (filings_two (reports run s) (reports (rest run s) t) _));
          };
    }

pub feeding_more : {s : List ℕ} {p : Progress} {store : List ℕ} {p₁ : Progress} {store₁ : List ℕ} {p₂ : Progress} {store₂ : List ℕ} {i : ℕ}
    → Feeding s p store p₁ store₁ i → i < length s → length store₂ ≡ length store₁
    → Feeds (get_or s i 0 ∷ []) p₁ store₁ p₂ store₂ → Feeding s p store p₂ store₂ (i + 1)
feeding_more {s} {p} {store} {p₁} {store₁} {p₂} {store₂} {i} v h l w =
    record {
      long = l ∙ v.long;
      feeds =
          subst (λ (t : List ℕ). Feeds t p store p₂ store₂)
          (sym (take-suc s i 0 h) ∙ ap (λ (k : ℕ). take k s) (sym (add-one i)))
          (feeds_two v.feeds w);
    }

pub fed_all : {s : List ℕ} {p : Progress} {store : List ℕ} {p₁ : Progress} {store₁ : List ℕ} {i : ℕ}
    → Feeding s p store p₁ store₁ i → length s ≤ i → Feeds s p store p₁ store₁
fed_all {s} {p} {store} {p₁} {store₁} {i} v h =
    subst (λ (t : List ℕ). Feeds t p store p₁ store₁) (take_all i s h) v.feeds

-- ---- the tail
module _ (run : List ℕ) (s : List ℕ) (n : ℕ) (b : Bool) (e : b ≡ all_blank run) where
  pub tail_blank : b ≡ true → Ended run s n s n
  tail_blank t = rw (sym e ∙ t) (filings_none _)

  pub tail_filed : b ≡ false → (t : List ℕ) (m : ℕ) → Filed run s n t m → Ended run s n t m
  tail_filed f t m g = rw (sym e ∙ f) (g ∙ filings_one run _)

-- ---- the whole input: begun, fed and ended, it leaves what its reports leave, filed in order
whole_input : {p : Progress} {s store : List ℕ} {p' : Progress} {store' t : List ℕ} {m : ℕ}
    → Begun p → Feeds s p store p' store' → ((run : List ℕ) → Under run p' → Ended run store' p'.refused t m)
    → record { store = t; refused = m } ≡ filings (input_reports s) (record { store = store; refused = 0 })
whole_input {p} {s} {store} b f e =
    let g = f.fed [] b.under in
    e (rest [] s) g.under ∙ ap (filings (tail (rest [] s))) g.tally ∙ sym (filings_two (reports [] s) (tail (rest [] s)) _)
    ∙ ap (λ (n : ℕ). filings (input_reports s) (record { store = store; refused = n })) b.none
