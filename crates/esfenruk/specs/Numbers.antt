-- What the calls for C and Rust return: an answer's number.
-- Assumes nothing.
use Rattle.std.specs.Prelude.{◌≡◌, List, [], ◌∷◌, ℕ}
use Rattle.rules.specs.Step.{Outcome}
use Rattle.bulletin.specs.Bulletin.{Answered, whole, counts, Result}
use Rattle.capi.specs.Numbers.{number}

-- a call returned r and left the bytes t, as the outcome o says
pub record Returned (o : Outcome) (r : ℕ) (t : List ℕ) : Type 0 where
  pub number : r ≡ number o.answer
  pub left : t ≡ o.store

-- ---- bulletin
-- 0 where the reports were counted, else the number with which the whole was refused
abbrev pub bulletin_number : Answered → ℕ
bulletin_number (whole n) = n
bulletin_number (counts a r) = 0

-- the array after a bulletin, from the one before: how many reports were accepted and refused
abbrev pub bulletin_counts : Answered → List ℕ → List ℕ
bulletin_counts (whole n) old = old
bulletin_counts (counts a r) old = a ∷ r ∷ []

-- a bulletin returned r, left the bytes t and the counts u, which were `old` before
pub record Delivered (b : Result) (old : List ℕ) (r : ℕ) (t u : List ℕ) : Type 0 where
  pub number : r ≡ bulletin_number b.answer
  pub left : t ≡ b.store
  pub counts : u ≡ bulletin_counts b.answer old
