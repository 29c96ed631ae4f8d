-- Every report that passes the checks fits a slot: its head is in range, and each of its nine values fits a cell.
--     report_bounds
-- And a text of more than 512 bytes is refused 1 whatever it holds.
--     long_report
-- So the first 513 bytes of a text answer for all of it.
--     cut_report
-- Assumes nothing.
use mathlib.Core.Path.{◌≡◌, sym, ◌∙◌, ap, subst}
use mathlib.Core.Bool.{true}
use mathlib.Core.List.{List, [], ◌∷◌}
use mathlib.Core.Logic.{inl, inr}
use Prim.Native.Nat.{ℕ, zero, suc, ◌+◌, ◌<◌}
use native.Mathlib.Decide.{dec_lt}
use native.Mathlib.Omega.{arith}
use borrow.Author.Tests.{le-leb, lt-ltb}
use lib.ListN.{length, take, get_or, length-take}
use lib.Seq.{take_all}
use Rattle.synop_values.specs.Value.{Value, missing, Within}
use Rattle.synop_values.proofs.CodeRanges.{Direction}
use Rattle.synop.proofs.ContentRanges.{AllWithin}
use Rattle.store_layout.specs.Valid.{is_direction}
use Rattle.synop_checks.specs.Bytes.{check1}
use Rattle.synop_checks.specs.Refusal.{refusal}
use Rattle.synop.specs.Report.{Report, read, report}
use Rattle.synop.proofs.ReportRanges.{InRange, report_in_range}
use Rattle.rules.proofs.Requests.{ReportBounds}

-- dd, as a test
direction : (d : ℕ) → Direction d → is_direction d ≡ true
direction d (inl l) = rw (le-leb d 36 l)
direction d (inr (inl e)) = rw e
direction d (inr (inr e)) = rw e

-- each of a list's values fits the cell of its element
each_within : (from : ℕ) (vs : List Value) → AllWithin from vs → (k e : ℕ) → e ≡ from + k → Within e (get_or vs k missing)
each_within from [] w k e q = tt
each_within from (v ∷ vs) w zero e q = subst (λ (d : ℕ). Within d v) (omega arith) w.0
each_within from (v ∷ vs) w (suc k) e q = each_within (suc from) vs w.1 k e (omega arith)

pub report_bounds : ReportBounds
report_bounds =
    record {
      fits =
          λ text h head values e.
          let r = subst InRange e (report_in_range text) in
          record {
            indicator = r.1.indicator;
            duration = r.1.duration;
            direction = direction _ r.1.direction;
            value = λ e l. each_within 0 values r.2.each e e (omega arith);
          };
    }

pub long_report : (t : List ℕ) → 512 < length t → report t ≡ Report.refused 1
unfolding report read refusal check1
long_report t h = rw (lt-ltb 512 (length t) h)

pub cut_report : (t : List ℕ) → report (take 513 t) ≡ report t
cut_report t = go (dec_lt 512 (length t))
  where
    go : Dec (512 < length t) → report (take 513 t) ≡ report t
    go (yes h) = long_report (take 513 t) (omega (arith, length-take 513 t)) ∙ sym (long_report t h)
    go (no h) = ap report (take_all 513 t (omega arith))
