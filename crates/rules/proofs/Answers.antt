-- What an answer is, from what is said of its kind.
--     is_refused      a refusal, and its number
--     is_day          a day line, and what is said of it
-- Assumes nothing.
use mathlib.Core.Path.{◌≡◌, refl, sym, ap}
use Prim.Native.Nat.{ℕ}
use Rattle.daily.specs.Line.{DayLine}
use Rattle.rules.specs.Calls.{Answer, refused, accepted, a_cell, a_day, on_refused, on_day}

pub is_refused : (n : ℕ) (a : Answer) → on_refused (λ m. n ≡ m) ⊥ a → a ≡ refused n
is_refused n (refused m) h = ap refused (sym h)
is_refused n accepted h = absurd h
is_refused n (a_cell c) h = absurd h
is_refused n (a_day d) h = absurd h

-- the answer a is a day line of which P holds
pub record IsDay (P : DayLine → Type 0) (a : Answer) : Type 0 where
  pub line : DayLine
  pub answer : a ≡ a_day line
  pub holds : P line

pub is_day : (P : DayLine → Type 0) (a : Answer) → on_day P ⊥ a → IsDay P a
is_day P (refused n) h = absurd h
is_day P accepted h = absurd h
is_day P (a_cell c) h = absurd h
is_day P (a_day d) h = record { line = d; answer = refl; holds = h }
