-- What the code's line and its opening stand for. Assumes nothing.
use Rattle.std.specs.Prelude.{ℕ, Bool, ◌&&◌, List, [], ◌++◌, ◌≡◌, ◌≤◌, length, Option, None, Some, IfSome}
use Rattle.dayline_text.specs.declared.first_line.Line.{Line}
use Rattle.dayline_text.specs.declared.first_line.Opening.{Opening}
use Rattle.dayline_text.specs.FirstLine.{First, cannot_open, opens, first, closed, is_plain, numbers_from}

-- what a line opens with these numbers more, where the rest of it is plain or not; no byte and no number too many has spoilt it so far, if it is good
abbrev pub with : Line → Bool → List ℕ → First
with l plain rest = first (l.good && plain) (l.numbers.items ++ rest)

-- what a line opens that goes on with the bytes s
unfoldable pub goes : Line → List ℕ → First
goes l s = with l (is_plain s) (numbers_from l.number s)

-- the number that was under way in the line l is whole
pub record Ended (l r : Line) : Type 0 where
  pub none : r.number ≡ None
  pub same : (plain : Bool) (rest : List ℕ) → with r plain rest ≡ with l plain (closed l.number rest)

-- what the code's answer says
abbrev pub told : Option Opening → First
told None = cannot_open
told (Some o) = opens o.date.year o.date.month o.date.day o.stations.items o.rows.items

-- the line l, which ends here, opens what the answer o says
pub record Opens (l : Line) (o : Option Opening) : Type 0 where
  pub says : told o ≡ goes l []
  pub few : IfSome o (λ p. length p.stations.items ≤ 32)
