-- Two forms at work: ours against itself, and against one with a byte 0 before each store's bytes. Document 01's example is answered the
-- same in that form.
--     padded, padded_lawful
--     answers_padded      the answers of the example's run
-- Assumes nothing.
use mathlib.Core.Path.{◌≡◌, sym, ◌∙◌, ap, ap₂}
use mathlib.Core.Bool.{Bool, false, false≢true, ◌&&◌}
use mathlib.Core.List.{List, [], ◌∷◌}
use Prim.Native.Nat.{ℕ, suc}
use native.Mathlib.Omega.{arith}
use borrow.Author.Tests.{eqb-true}
use lib.Dec.{eqb}
use lib.ListN.{drop}
use Rattle.laws.proofs.Bools.{and_left, and_right}
use Rattle.store_layout.specs.Model.{Store}
use Rattle.store_layout.specs.Valid.{ValidStore}
use Rattle.store_layout.specs.Form.{Form, ours, SoundIn, LawfulForm, Corresponding}
use Rattle.store_layout.specs.Opening.{fresh}
use Rattle.store_layout.proofs.Bytes.{bytes_more}
use Rattle.store_layout.proofs.Forms.{ours_lawful, corresponding_encoded}
use Rattle.store_layout.proofs.Opened.{can_open_in_form, valid_fresh}
use Rattle.rules.specs.Step.{step_in}
use Rattle.rules.specs.Runs.{Logged, log, naming_log}
use Rattle.rules.specs.Forms.{SameCalls}
use Rattle.rules.proofs.Requests.{all_lawful}
use Rattle.rules.proofs.Reports.{report_bounds}
use Rattle.rules.proofs.Forms.{same_calls}
use Rattle.rules.proofs.Examples.{answers, replies, calls_a, store_a, opens_A, answers_A}

ours_ours : SameCalls ours ours
ours_ours = same_calls (all_lawful report_bounds) ours ours ours_lawful ours_lawful

-- ---- a form with one byte more
module _ (f : Form) where
  abbrev pub sound_after : List ℕ → Bool
  sound_after [] = false
  sound_after (b ∷ s) = eqb b 0 && f.sound s

  abbrev pub padded : Form
  padded = record { size = λ n. suc (f.size n); sound = sound_after; decode = λ s. f.decode (drop 1 s); encode = λ m. 0 ∷ f.encode m }

  module _ (p : LawfulForm f) where
    rest : (b : ℕ) (s : List ℕ) → SoundIn padded (b ∷ s) → SoundIn f s
    rest b s h = record { bytes = record { each = λ k. h.bytes.each (suc k) }; sound = and_right (eqb b 0) (f.sound s) h.sound }

    written : (m : Store) → ValidStore m → SoundIn padded (0 ∷ f.encode m)
    written m v = record { bytes = bytes_more (omega arith) (p.written m v).bytes; sound = (p.written m v).sound }

    valid : (s : List ℕ) → SoundIn padded s → ValidStore (f.decode (drop 1 s))
    valid [] h = absurd (false≢true h.sound)
    valid (b ∷ s) h = p.valid s (rest b s h)

    whole : (s : List ℕ) → SoundIn padded s → 0 ∷ f.encode (f.decode (drop 1 s)) ≡ s
    whole [] h = absurd (false≢true h.sound)
    whole (b ∷ s) h = ap₂ ◌∷◌ (sym (eqb-true b 0 (and_left (eqb b 0) (f.sound s) h.sound))) (p.whole s (rest b s h))

    pub padded_lawful : LawfulForm padded
    padded_lawful = record { written = written; long = λ m v. ap suc (p.long m v); same = p.same; valid = valid; whole = whole }

pub ours_padded : SameCalls ours (padded ours)
ours_padded = same_calls (all_lawful report_bounds) ours (padded ours) ours_lawful (padded_lawful ours ours_lawful)

-- ---- the example's store with a byte 0 before it: the run's answers are the example's
pub store_a_padded : Corresponding ours (padded ours) store_a (0 ∷ store_a)
store_a_padded =
    corresponding_encoded ours_lawful (padded_lawful ours ours_lawful) (fresh 2024 4 11 (30000 ∷ 40001 ∷ 50000 ∷ []) (1 ∷ 0 ∷ 1 ∷ []))
    (valid_fresh 2024 4 11 _ _ (can_open_in_form 2024 4 11 _ _ ours _ opens_A.accepted))

answers_padded : answers (naming_log 40001 (log (step_in (padded ours)) calls_a (0 ∷ store_a))) ≡ replies
answers_padded =
    ap (λ (l : List Logged). answers (naming_log 40001 l)) (sym (ours_padded.answers calls_a store_a (0 ∷ store_a) store_a_padded)) ∙ answers_A
