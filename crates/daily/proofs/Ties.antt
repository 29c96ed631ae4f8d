-- The earliest or the latest at which a test holds.
--     on_ties_none                      the test holds nowhere
--     on_ties_some                      where it holds, and holds at none before, or at none after
--     warmest_below, coldest_below     an extreme is one of slots 0 to 7
-- Assumes nothing.
use mathlib.Core.Path.{◌≡◌, refl}
use mathlib.Core.Logic.{⊎_elim}
use mathlib.Core.Bool.{Bool, true, false}
use mathlib.Core.List.{List}
use Rattle.std.specs.Prelude.{Option, None, Some}
use Prim.Native.Nat.{ℕ, zero, suc, ◌<◌}
use native.Mathlib.Nat.{le_of_suc-le-suc, eq-or-lt_of_le, not-suc-le-zero}
use native.Mathlib.Omega.{arith}
use Rattle.quality.specs.Cell.{Cell}
use Rattle.daily.specs.declared.extremes.Tie.{Tie}
use Rattle.daily.specs.declared.extremes.Tie.TheVariants.{Earliest, Latest}
use Rattle.daily.specs.Extremes.{on_ties, warmest, coldest}

pub on_ties_none : (t : Tie) (p : ℕ → Bool) (n : ℕ) → ((i : ℕ) → i < n → p i ≡ false) → on_ties t p n ≡ None
unfolding on_ties
on_ties_none t p zero h = refl
on_ties_none Earliest p (suc n) h = rw (on_ties_none Earliest p n (λ i l. h i (omega arith)), h n (omega arith))
on_ties_none Latest p (suc n) h = rw (on_ties_none Latest p n (λ i l. h i (omega arith)), h n (omega arith))

-- p holds at none of those before j, or at none of those after it
abbrev pub Alone : Tie → (ℕ → Bool) → ℕ → ℕ → Type 0
Alone Earliest p n j = (i : ℕ) → i < j → p i ≡ false
Alone Latest p n j = (i : ℕ) → j < i → i < n → p i ≡ false

pub on_ties_some : (t : Tie) (p : ℕ → Bool) (n j : ℕ) → j < n → p j ≡ true → Alone t p n j → on_ties t p n ≡ Some j
unfolding on_ties
on_ties_some t p zero j l e h = absurd (not-suc-le-zero l)
on_ties_some Earliest p (suc n) j l e h =
    ⊎_elim (λ q. rw (← q) (rw (on_ties_none Earliest p j h, e))) (λ m. rw (on_ties_some Earliest p n j m e h)) (eq-or-lt_of_le (le_of_suc-le-suc l))
on_ties_some Latest p (suc n) j l e h =
    ⊎_elim (λ q. rw (← q) (rw e)) (λ m. rw (h n m (omega arith), on_ties_some Latest p n j m e (λ i a b. h i a (omega arith))))
    (eq-or-lt_of_le (le_of_suc-le-suc l))

-- ---- one of the n
abbrev pub Below : ℕ → Option ℕ → Type 0
Below n None = Unit {0}
Below n (Some k) = k < n

on_ties_below : (t : Tie) (p : ℕ → Bool) (n : ℕ) → Below n (on_ties t p n)
unfolding on_ties
on_ties_below t p zero = tt
on_ties_below t p (suc n) = go t (on_ties t p n) refl (on_ties_below t p n) (p n) refl
  where
    go : (t : Tie) (o : Option ℕ) → on_ties t p n ≡ o → Below n o → (b : Bool) → p n ≡ b → Below (suc n) (on_ties t p (suc n))
    go Earliest None e h true q = rw (e, q) (omega arith)
    go Earliest None e h false q = rw (e, q) tt
    go Earliest (Some k) e h b q = rw e (omega (arith, h))
    go Latest None e h false q = rw (e, q) tt
    go Latest (Some k) e h false q = rw (e, q) (omega (arith, h))
    go Latest o e h true q = rw q (omega arith)

pub warmest_below : (ts : List Cell) → Below 8 (warmest ts)
unfolding warmest
warmest_below ts = on_ties_below Latest _ 8

pub coldest_below : (ts : List Cell) → Below 8 (coldest ts)
unfolding coldest
coldest_below ts = on_ties_below Earliest _ 8
