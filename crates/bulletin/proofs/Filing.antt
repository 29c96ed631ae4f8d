-- A report filed at a rank in a sound store: as much of it as the buffer holds answers for all of it, and the store stays sound.
-- Assumes nothing.
use mathlib.Core.Path.{◌≡◌, sym, ◌∙◌, ap, subst}
use mathlib.Core.Bool.{true}
use mathlib.Core.List.{List, [], ◌∷◌, ◌++◌}
use Prim.Native.Nat.{ℕ}
use Rattle.std.specs.Prelude.{Result}
use Rattle.refusals.specs.declared.Refusal.{Refusal}
use Rattle.store_layout.specs.Layout.{decode}
use Rattle.store_layout.specs.Sound.{sound}
use Rattle.store_layout.specs.Valid.{is_rank}
use Rattle.synop.specs.Report.{Report, report}
use Rattle.rules.specs.Calls.{file, ask_file}
use Rattle.rules.specs.Step.{Outcome, asked, step}
use Rattle.rules.proofs.Steps.{sound_step}
use Rattle.rules.proofs.Requests.{all_lawful}
use Rattle.rules.proofs.Reports.{report_bounds, cut_report}
use Rattle.engine_answers.specs.Good.{Good}
use Rattle.engine_answers.specs.Replies.{reply, Did}
use Rattle.engine_filing.proofs.Filed.{file_ranked}
use Rattle.synop_text.specs.declared.Characters.{Characters}
use Rattle.texts.specs.Written.{Holds, Adds}
use Rattle.texts.proofs.Writing.{holds_more}
use Rattle.bulletin.specs.Rebuilt.{spaced, heading, rebuilt}
use Rattle.bulletin.specs.Filed.{Filed}

-- the text holds the report, or its first 513 bytes
pub held : {begun squeezed ended : List ℕ} (time : Characters) (gs : List (List ℕ)) → begun ≡ heading time → Adds 513 begun squeezed (spaced gs) → Adds 513 squeezed ended (61 ∷ [])
    → Holds 513 ended (rebuilt (heading time) gs)
held time gs b f g = holds_more (heading time ++ spaced gs) (holds_more (heading time) b f) g

module _ (rank : ℕ) (k : is_rank rank ≡ true) (head : List ℕ) (gs : List (List ℕ)) (s : List ℕ) where
  pub filed : Good s → (t : List ℕ) → Holds 513 t (rebuilt head gs) → (r : Result (Unit {0}) Refusal) (u : List ℕ)
      → Did (asked (ask_file rank (report t)) (decode s) s) (reply r) u → Filed rank head gs s r u
  filed g t e r u d =
      record {
        answer = w.answer ∙ sym (ap (λ (o : Outcome). o.answer) p);
        left = store;
        sound = ap sound store ∙ sound_step (all_lawful report_bounds) (file (rebuilt head gs) rank) s g.bytes g.sound;
      }
    where
      w : Did (asked (ask_file rank (report (rebuilt head gs))) (decode s) s) (reply r) u
      w = subst (λ (x : Report). Did (asked (ask_file rank x) (decode s) s) (reply r) u) (ap report e ∙ cut_report (rebuilt head gs)) d

      p : step (file (rebuilt head gs) rank) s ≡ asked (ask_file rank (report (rebuilt head gs))) (decode s) s
      p = file_ranked (rebuilt head gs) rank s g.sound k

      store : u ≡ (step (file (rebuilt head gs) rank) s).store
      store = w.left ∙ sym (ap (λ (o : Outcome). o.store) p)
