-- Pieces of one length, laid one after the other.
--     length_pieces     n pieces of length w have w * n entries
--     pieces_at         piece k is the part at w * k
--     get_d_pieces       entry j of piece k
--     pieces_parts      the parts of a list, laid again
--     pieces_join       so a list of the right length is its parts
-- Assumes nothing.
use mathlib.Core.Path.{◌≡◌, refl, sym, ◌∙◌, ap, ap₂}
use mathlib.Core.List.{List, ◌++◌}
use Prim.Native.Nat.{ℕ, zero, suc, ◌+◌, ◌*◌, ◌<◌, suc-le-suc, zero-le}
use native.Mathlib.Nat.{not-suc-le-zero, le_of_suc-le-suc, mul-zero, zero-add}
use native.Mathlib.Omega.{arith}
use lib.ListN.{length, get_or, take, drop, length-append}
use lib.Seq.{take_at, take_all}
use Rattle.store_layout.specs.Layout.{pieces}
use Rattle.store_layout.proofs.Parts.{part_right, part_join, get_d_part}

-- pieces of functions that agree below the bound
pub pieces_ext : (n : ℕ) (f g : ℕ → List ℕ) → ((k : ℕ) → k < n → f k ≡ g k) → pieces n f ≡ pieces n g
unfolding pieces
pieces_ext zero f g h = refl
pieces_ext (suc n) f g h =
    ap₂ (λ (x y : List ℕ). x ++ y) (h zero (suc-le-suc zero-le)) (pieces_ext n (λ k. f (suc k)) (λ k. g (suc k)) (λ k l. h (suc k) (suc-le-suc l)))

pub length_pieces : (n w : ℕ) (f : ℕ → List ℕ) → ((k : ℕ) → length (f k) ≡ w) → length (pieces n f) ≡ w * n
unfolding pieces
length_pieces zero w f h = omega arith
length_pieces (suc n) w f h =
    length-append (f zero) (pieces n (λ k. f (suc k))) ∙ omega (arith, h zero, length_pieces n w (λ k. f (suc k)) (λ k. h (suc k)))

pub pieces_at : (n w : ℕ) (f : ℕ → List ℕ) → ((k : ℕ) → length (f k) ≡ w) → (k : ℕ) → k < n → take w (drop (w * k) (pieces n f)) ≡ f k
unfolding pieces
pieces_at zero w f h k l = absurd (not-suc-le-zero l)
pieces_at (suc n) w f h zero l = rw mul-zero (take_at (f zero) (pieces n (λ k. f (suc k))) w (h zero))
pieces_at (suc n) w f h (suc k) l =
    let e : w * suc k ≡ w + w * k = omega arith in
    rw e (part_right w (w * k) w (f zero) (pieces n (λ j. f (suc j))) (h zero) ∙ pieces_at n w (λ j. f (suc j)) (λ j. h (suc j)) k (le_of_suc-le-suc l))

pub get_d_pieces : (n w : ℕ) (f : ℕ → List ℕ) → ((k : ℕ) → length (f k) ≡ w) → (k j : ℕ) → k < n → j < w
    → get_or (pieces n f) (w * k + j) 0 ≡ get_or (f k) j 0
get_d_pieces n w f h k j l m = sym (get_d_part w (w * k) j (pieces n f) m) ∙ ap (λ (t : List ℕ). get_or t j 0) (pieces_at n w f h k l)

-- the n parts of length w that begin at a, laid again
pub pieces_parts : (n w a : ℕ) (s : List ℕ) → pieces n (λ k. take w (drop (a + w * k) s)) ≡ take (w * n) (drop a s)
unfolding pieces
pieces_parts zero w a s = rw mul-zero
pieces_parts (suc n) w a s =
    let e : w * suc n ≡ w + w * n = omega arith in
    let z : a + w * 0 ≡ a = omega arith in
    rw (e, z)
    (ap (λ (x : List ℕ). take w (drop a s) ++ x)
    (pieces_ext n (λ k. take w (drop (a + w * suc k) s)) (λ k. take w (drop (a + w + w * k) s)) (λ k l. next k) ∙ pieces_parts n w (a + w) s)
    ∙ part_join w (w * n) a s)
  where
    next : (k : ℕ) → take w (drop (a + w * suc k) s) ≡ take w (drop (a + w + w * k) s)
    next k = let e : a + w * suc k ≡ a + w + w * k = omega arith in rw e

-- so a list of w * n entries is its n parts of length w
pub pieces_join : (n w : ℕ) (s : List ℕ) → length s ≡ w * n → pieces n (λ k. take w (drop (w * k) s)) ≡ s
pieces_join n w s e =
    pieces_ext n (λ k. take w (drop (w * k) s)) (λ k. take w (drop (0 + w * k) s)) (λ k l. rw zero-add)
    ∙ pieces_parts n w 0 s ∙ take_all (w * n) s (omega arith)
