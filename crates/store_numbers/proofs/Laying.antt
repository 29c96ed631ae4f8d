-- Bytes laid one after the other in a buffer.
--     sets_append, run      a run of bytes and then another is one run
--     sets_all              a run as long as the buffer is the buffer
--     Laying                a loop that lays n pieces of w bytes side by side
-- Assumes nothing.
use mathlib.Core.Path.{◌≡◌, refl, sym, ◌∙◌, ap}
use mathlib.Core.List.{List, [], ◌∷◌, ◌++◌, append_assoc, append-nil}
use Prim.Native.Nat.{ℕ, zero, suc, ◌+◌, ◌*◌, ◌<◌, ◌≤◌}
use native.Mathlib.Nat.{add-zero}
use native.Mathlib.Numerals.{add-one}
use native.Mathlib.Omega.{arith}
use lib.ListN.{length, set, drop_of_length-le}
use lib.Seq.{sets, sets-eq, length-sets}
use Rattle.store_layout.specs.Layout.{pieces}
use Rattle.store_layout.proofs.Pieces.{length_pieces}

pub sets_append : (xs ys s : List ℕ) (at : ℕ) → sets (sets s at xs) (at + length xs) ys ≡ sets s at (xs ++ ys)
sets_append [] ys s at = rw add-zero
sets_append (x ∷ xs) ys s at =
    let e : at + suc (length xs) ≡ suc at + length xs = omega arith in rw e (sets_append xs ys (set s at x) (suc at))

-- where the second one begins at p
pub run : (s xs ys : List ℕ) {t t' : List ℕ} (at p : ℕ) → t ≡ sets s at xs → p ≡ at + length xs → t' ≡ sets t p ys → t' ≡ sets s at (xs ++ ys)
run s xs ys at p a e b = b ∙ rw (a, e) (sets_append xs ys s at)

pub sets_all : (xs s : List ℕ) → length xs ≡ length s → sets s 0 xs ≡ xs
sets_all xs s e = sets-eq xs s 0 (omega arith) ∙ ap (λ (l : List ℕ). xs ++ l) (drop_of_length-le s {i = 0 + length xs} (omega arith)) ∙ append-nil xs

-- ---- pieces
-- the last one behind the others
pieces_last : (n : ℕ) (f : ℕ → List ℕ) → pieces (suc n) f ≡ pieces n f ++ f n
unfolding pieces
pieces_last zero f = append-nil (f 0)
pieces_last (suc n) f = ap (λ (l : List ℕ). f 0 ++ l) (pieces_last n (λ k. f (suc k))) ∙ sym (append_assoc (f 0) (pieces n (λ k. f (suc k))) (f (suc n)))

-- t is s with the first k of n pieces laid from `base` on
pub record Laying (s : List ℕ) (base : ℕ) (f : ℕ → List ℕ) (n : ℕ) (t : List ℕ) (k : ℕ) : Type 0 where
  pub upto : k ≤ n
  pub long : length t ≡ length s
  pub laid : t ≡ sets s base (pieces k f)

pub none : (s : List ℕ) (base : ℕ) (f : ℕ → List ℕ) (n : ℕ) → Laying s base f n s 0
unfolding pieces
none s base f n = record { upto = omega arith; long = refl; laid = refl }

module _ {s : List ℕ} {base : ℕ} {f : ℕ → List ℕ} {n : ℕ} {t : List ℕ} {k : ℕ} (h : Laying s base f n t k) where
  -- the next piece laid at p
  pub more : (w : ℕ) → ((j : ℕ) → length (f j) ≡ w) → k < n → (p : ℕ) → p ≡ base + w * k → {t' : List ℕ} → t' ≡ sets t p (f k) → Laying s base f n t' (k + 1)
  more w wide l p e {t'} r =
      record {
        upto = omega arith;
        long = ap length r ∙ length-sets t p (f k) ∙ h.long;
        laid = r ∙ rw (h.laid, e, ← length_pieces k w f wide, add-one, pieces_last) (sets_append (pieces k f) (f k) s base);
      }

  pub whole : n ≤ k → t ≡ sets s base (pieces n f)
  whole l = let e : k ≡ n = omega arith in rw (← e) h.laid
