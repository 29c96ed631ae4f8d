-- An entry in one pass, for the tests that are computed: each term is made from the one before it, and the pass ends at a
-- term 0, since every later term is 0 too. It is the entry of the definition, which makes each term from the first.
-- Assumes nothing.
use mathlib.Core.Path.{◌≡◌, refl, sym, ◌∙◌, ap}
use Prim.Native.Nat.{ℕ, zero, suc, ◌+◌, ◌*◌, ◌/◌}
use native.Mathlib.Nat.{add-zero, add-suc, suc-add, zero-mul, zero-div}
use lib.IntN.{ℤ, pos, negsuc}
use Rattle.vapour.specs.Vapour.{S, q, term, sum_to, Z, entry}

pub term_suc : (q k : ℕ) → term q (suc k) ≡ term q k * q / (S * suc k)
unfolding term
term_suc q k = refl

pub sum_to_suc : (f : ℕ → ℕ) (n : ℕ) → sum_to f (suc n) ≡ sum_to f n + f (suc n)
unfolding sum_to
sum_to_suc f n = refl

-- after a term 0 every term is 0
gone : (q k n : ℕ) → term q k ≡ 0 → term q (k + n) ≡ 0
gone q k zero e = rw (add-zero, e)
gone q k (suc n) e = rw (add-suc, term_suc, gone q k n e, zero-mul, zero-div)

-- and nothing is added
still : (q k n : ℕ) → term q k ≡ 0 → sum_to (term q) (k + n) ≡ sum_to (term q) k
still q k zero e = rw add-zero
still q k (suc n) e =
    let h : term q (suc (k + n)) ≡ 0 = rw add-suc at (gone q k (suc n) e) in
    rw (add-suc, sum_to_suc, h, add-zero, still q k n e)

-- the sum z of terms 0 to k with the n terms after them, where t is term k
abbrev pub pass : ℕ → ℕ → ℕ → ℕ → ℕ → ℕ
pass q zero k t z = z
pass q (suc n) k zero z = z
pass q (suc n) k (suc t) z = let u : ℕ = suc t * q / (S * suc k) in pass q n (suc k) u (z + u)

pass_is : (q n k t z : ℕ) → term q k ≡ t → sum_to (term q) k ≡ z → pass q n k t z ≡ sum_to (term q) (k + n)
pass_is q zero k t z e s = sym s ∙ ap (sum_to (term q)) (sym (add-zero k))
pass_is q (suc n) k zero z e s = sym s ∙ sym (still q k (suc n) e)
pass_is q (suc n) k (suc t) z e s =
    let e' : term q (suc k) ≡ suc t * q / (S * suc k) = rw (term_suc, e) in
    let s' : sum_to (term q) (suc k) ≡ z + suc t * q / (S * suc k) = rw (sum_to_suc, e', s) in
    pass_is q n (suc k) (suc t * q / (S * suc k)) (z + suc t * q / (S * suc k)) e' s' ∙
    ap (sum_to (term q)) (suc-add k n ∙ sym (add-suc k n))

-- Z from q
abbrev pub sum : ℕ → ℕ
sum q = pass q 30 0 S S

sum_is : (t : ℤ) → sum (q t) ≡ Z t
unfolding term sum_to Z
sum_is t = pass_is (q t) 30 0 S S refl refl

-- the entry at t
abbrev pub quick : ℤ → ℕ
quick (pos n) = (1224 * sum (q (pos n)) + S) / (2 * S)
quick (negsuc n) = let z : ℕ = sum (q (negsuc n)) in (1224 * S + z) / (2 * z)

pub quick_is : (t : ℤ) → quick t ≡ entry t
unfolding entry
quick_is (pos n) = rw (sum_is (pos n))
quick_is (negsuc n) = rw (sum_is (negsuc n))
