-- How the program's input is read in pieces: what a read gave, which bytes are the first line, and where the reports begin. Assumes nothing.
use Rattle.std.specs.Prelude.{ℕ, ◌+◌, ◌≤◌, Bool, true, false, ◌||◌, cond, List, ◌++◌, ◌≡◌, eqb, ltb, ℤ, pos, length, take, Option, Result, Ok, Err, IfOk, IsOk}
use Rattle.std.specs.Bool.{then_some}
use Rattle.std.specs.Int.Signed.{lt_z}
use Rattle.io.specs.Counts.{clamp_len}
use Rattle.dayline_text.specs.Cuts.{index}
use Rattle.dayline_text.specs.FirstLine.{first_line}
use Rattle.dayline_text.specs.Line.{goes}
use Rattle.dayline_text.specs.declared.first_line.Line.{Line}
use Rattle.dayline_text.specs.declared.input.Place.{Place}
use Rattle.dayline_text.specs.declared.input.Start.{Start}

-- ---- a read
-- the system's answer to a read, "-1, or how many bytes it put at the start of buf, 0 at the end of the input": below 0 it failed
abbrev pub failed : ℤ → Bool
failed answer = lt_z answer (pos 0)

-- what a read gave of a piece of so many bytes, by the system's answer
abbrev pub Gave : {E : Type 0} → ℤ → ℕ → Result ℕ E → Type 0
Gave answer long (Ok n) = (n ≡ clamp_len answer long) × (n ≤ long) × (failed answer ≡ false)
Gave answer long (Err e) = failed answer ≡ true

-- a read into a piece, and what it gave
pub record Reads {E : Type 0} (piece : List ℕ) (r : Result ℕ E) : Type 0 where
  pub answer : ℤ
  pub gave : Gave answer (length piece) r

-- ---- the first line
-- LF, which ends a line
abbrev pub line_feed : ℕ
line_feed = 10

-- the bytes of s that belong to the first line: those before the first LF, or all
abbrev pub line_in : List ℕ → List ℕ
line_in s = take (index line_feed s) s

-- the reports begin behind the LF; where there is none, nothing of s is left for them
abbrev pub reports_from : List ℕ → ℕ
reports_from s = cond (ltb (index line_feed s) (length s)) (index line_feed s + 1) (length s)

-- an LF ends the line, and so does the end of the input, where a read gives no byte
abbrev pub ends_in : List ℕ → Bool
ends_in s = ltb (index line_feed s) (length s) || eqb (length s) 0

-- of the line l the bytes s were read: it is r then, and the reports begin at p, if the line ended
pub record Taken (l : Line) (s : List ℕ) (r : Line) (p : Option Place) : Type 0 where
  pub line : (t : List ℕ) → goes r t ≡ goes l (line_in s ++ t)
  pub place : p ≡ then_some (ends_in s) (record { from = reports_from s; got = length s })

-- the same of what a read gave of a piece; a read that failed is passed on
abbrev pub Takes : {E : Type 0} → Line → Result ℕ E → List ℕ → Line → Result (Option Place) E → Type 0
Takes l (Ok n) piece r result = IfOk result (Taken l (take n piece) r) × IsOk result
Takes l (Err e) piece r result = result ≡ Err e

-- the line so far: the bytes of whole pieces, none of them an LF
pub record Unended (l : Line) : Type 0 where
  pub bytes : List ℕ
  pub whole : index line_feed bytes ≡ length bytes
  pub line : (t : List ℕ) → goes l t ≡ first_line (bytes ++ t)

-- of the first `got` bytes of a piece the reports start at `from`
pub record Placed (piece : List ℕ) (p : Place) : Type 0 where
  pub start : p.from ≤ p.got
  pub upto : p.got ≤ length piece

-- the first line is whole: it has the bytes of whole pieces without an LF and those of the piece read last, in which it ends
pub record Begins (piece : List ℕ) (r : Start) : Type 0 where
  pub placed : Placed piece r.place
  pub bytes : List ℕ
  pub whole : index line_feed bytes ≡ length bytes
  pub line : (t : List ℕ) → goes r.line t ≡ first_line (bytes ++ (line_in (take r.place.got piece) ++ t))
  pub ended : ends_in (take r.place.got piece) ≡ true
  pub from : r.place.from ≡ reports_from (take r.place.got piece)
