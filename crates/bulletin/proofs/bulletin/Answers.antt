-- `bulletin::bulletin` meets its contract: refused whole, or the heading read and the reports filed.
use native.Mathlib.Omega.{arith}
use lib.ListN.{length, drop, length-drop}
use borrow.Author.Tests.{le-leb, lt-leb}
use Rattle.std.proofs.lemmas.Result.{err_from_is_err_and}
use Rattle.laws.proofs.Bools.{via}
use Rattle.bulletin.specs.Pieces.{parted}
use Rattle.bulletin.proofs.Reports.{onward}
use Rattle.bulletin.proofs.Results.{short, front_of, headed_as, headed_refused, gave_unsound, gave_high, gave_long, gave_faulty, gave_counts}
use Rattle.bulletin.proofs.bulletin.Goals as goal

pub returns-then-not-is_sound : goal.returns-then-not-is_sound
returns-then-not-is_sound c = gave_unsound _ _ _ (via c.is_sound.ensures c.if-not-is_sound.true)

pub returns-then-rank-gt-HIGHEST_RANK : goal.returns-then-rank-gt-HIGHEST_RANK
returns-then-rank-gt-HIGHEST_RANK c =
    gave_high _ _ _ (via c.is_sound.ensures c.if-not-is_sound.false) (lt-leb _ _ c.if-rank-gt-HIGHEST_RANK.true)

pub returns-then-not-fits : goal.returns-then-not-fits
returns-then-not-fits c =
    gave_long _ _ _ (via c.is_sound.ensures c.if-not-is_sound.false) (le-leb _ _ c.if-rank-gt-HIGHEST_RANK.false) c.if-not-fits.true

pub returns-in_err-start : goal.returns-in_err-start
returns-in_err-start c =
    let p = err_from_is_err_and c.from_residual.result c.from_residual.ensures.1 in
    rw (p.1, p.2)
    (gave_faulty _ _ _ (via c.is_sound.ensures c.if-not-is_sound.false) (le-leb _ _ c.if-rank-gt-HIGHEST_RANK.false) c.if-not-fits.false _
    (headed_refused (front_of c.args.text.now c.find.ensures c.unwrap_or-end.ensures) _ _ c.in_err-start.ensures))

pub file_reports-requires : goal.file_reports-requires
file_reports-requires c =
    let t = c.args.text.now in
    rw (onward t c.in_ok-start.start.at)
    (record {
      sound = via c.is_sound.ensures c.if-not-is_sound.false;
      short = omega (arith, short (length t) c.if-not-fits.false, length-drop c.in_ok-start.start.at t);
      ranked = le-leb _ _ c.if-rank-gt-HIGHEST_RANK.false;
    })

pub returns : goal.returns
returns c =
    let t = c.args.text.now in
    let b = c.in_ok-start.start in
    gave_counts _ _ _ (via c.is_sound.ensures c.if-not-is_sound.false) (le-leb _ _ c.if-rank-gt-HIGHEST_RANK.false) c.if-not-fits.false b.time (parted (drop b.at t)) _ _
    (headed_as (front_of t c.find.ensures c.unwrap_or-end.ensures) _ _ c.in_ok-start.ensures) (rw (onward t b.at) at c.file_reports.ensures)
