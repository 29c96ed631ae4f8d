-- A run of bytes stored in a list: what stands in it, and what stands outside.
--     Outside                            a position that a write does not touch, as refuted bounds
--     get_d_outside, get_d_inside          the entries of the written list
--     part_inside                        the part that was written
--     same_outside                       a stretch that was not
--     lent                               a part that was lent and came back is such a write
-- Assumes nothing.
use mathlib.Core.Path.{◌≡◌, refl, sym, ◌∙◌, ap}
use mathlib.Core.List.{List, [], ◌∷◌, ◌++◌, append_assoc}
use Prim.Native.Nat.{ℕ, suc, ◌+◌, ◌-◌, ◌<◌, ◌≤◌}
use native.Mathlib.Omega.{arith}
use lib.ListN.{length, take, drop, set}
use lib.Seq.{sets, sets-eq, take_at, drop_at, length-take-le, drop-drop, get_or-set_other}
use Rattle.store_layout.specs.Layout.{byte, word}
use Rattle.store_layout.proofs.Parts.{Same, get_d_part}
use Rattle.store_layout.proofs.Read.{word_same}

-- p is none of the n positions from `at` on
abbrev pub Outside : ℕ → ℕ → ℕ → Type 0
Outside at n p = at ≤ p → p < at + n → ⊥

pub get_d_outside : (vs s : List ℕ) (at p : ℕ) → Outside at (length vs) p → byte (sets s at vs) p ≡ byte s p
get_d_outside [] s at p h = refl
get_d_outside (v ∷ vs) s at p h =
    get_d_outside vs (set s at v) (suc at) p (λ l m. h (omega arith) (omega arith)) ∙ get_or-set_other s at p v 0 (λ e. h (omega arith) (omega arith))

-- the three parts of the written list
laid : (vs s : List ℕ) (at : ℕ) → at + length vs ≤ length s → sets s at vs ≡ take at s ++ (vs ++ drop (at + length vs) s)
laid vs s at h = sets-eq vs s at h ∙ append_assoc (take at s) vs (drop (at + length vs) s)

-- what was written, as a part
pub part_inside : (vs s : List ℕ) (at : ℕ) → at + length vs ≤ length s → take (length vs) (drop at (sets s at vs)) ≡ vs
part_inside vs s at h =
    ap (λ (t : List ℕ). take (length vs) (drop at t)) (laid vs s at h)
    ∙ ap (take (length vs)) (drop_at (take at s) (vs ++ drop (at + length vs) s) at (length-take-le at s (omega arith)))
    ∙ take_at vs (drop (at + length vs) s) (length vs) refl

pub get_d_inside : (vs s : List ℕ) (at j : ℕ) → at + length vs ≤ length s → j < length vs → byte (sets s at vs) (at + j) ≡ byte vs j
get_d_inside vs s at j h l = sym (get_d_part (length vs) at j (sets s at vs) l) ∙ ap (λ (t : List ℕ). byte t j) (part_inside vs s at h)

pub same_outside : (n i at : ℕ) (vs s : List ℕ) → ((k : ℕ) → k < n → Outside at (length vs) (i + k)) → Same n (sets s at vs) i s i
same_outside n i at vs s h = record { each = λ k l. get_d_outside vs s at (i + k) (h k l) }

-- a word that was not
pub word_outside : (i at : ℕ) (vs s : List ℕ) → ((k : ℕ) → k < 2 → Outside at (length vs) (i + k)) → word (sets s at vs) i ≡ word s i
word_outside i at vs s h = word_same (same_outside 2 i at vs s h)

-- a part from a to b that was lent comes back as ys
pub lent : (s ys : List ℕ) (a b : ℕ) → a ≤ b → b ≤ length s → length ys ≡ b - a → take a s ++ (ys ++ drop (b - a) (drop a s)) ≡ sets s a ys
lent s ys a b l h e =
    rw (← e) (ap (λ (t : List ℕ). take a s ++ (ys ++ t)) (drop-drop (length ys) a s) ∙ sym (laid ys s a (omega arith)))
