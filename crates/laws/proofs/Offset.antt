-- Offset binary: what the unsigned numbers tell of the values that they stand for. `a`, `b` are the numbers, `value a`,
-- `value b` what they stand for.
--     order       the order of the values is that of the numbers
--     apart       so is the distance
--     negated     65536 − a stands for the negative
--     middle      (a + b + 1) / 2 stands for floor((x + y + 1) / 2)
-- Assumes nothing.
use mathlib.Core.Path.{◌≡◌, refl, sym, ◌∙◌, ap, ap₂, subst}
use mathlib.Core.Logic.{◌⊎◌, inl, inr, ⊎_elim}
use Prim.Native.Nat.{ℕ, suc, ◌+◌, ◌-◌, ◌/◌, ◌<◌, ◌≤◌}
use native.Mathlib.Decide.{dec_lt, ℕ_discrete}
use native.Mathlib.Omega.{arith}
use lib.Dec.{ltb, eqb}
use lib.IntN.{ℤ, pos, negsuc, neg_ℤ, nat_abs, sub_ℕ, ◌+ℤ◌, ◌-ℤ◌, +ℤ_assoc, +ℤ_comm, +ℤ_idl, +ℤ_invl, neg_ℤ-+ℤ, neg_ℤ-neg_ℤ}
use lib.Signed.{lt_z, shr_z}
use borrow.Author.Tests.{lt-ltb, le-ltb, eq-eqb, ne_eqb}
use Rattle.laws.specs.Offset.{value}
use Rattle.laws.proofs.Bools.{cond_true, cond_false}

-- a number is below another or not
pub side : (n o : ℕ) → (n < o) ⊎ (o ≤ n)
side n o = go (dec_lt n o)
  where
    go : Dec (n < o) → (n < o) ⊎ (o ≤ n)
    go (yes h) = inl h
    go (no h) = inr (omega arith)

pub sub_below : (n o : ℕ) → n < o → sub_ℕ n o ≡ negsuc (o - suc n)
sub_below n o h = cond_true _ _ _ (lt-ltb n o h)

pub sub_above : (n o : ℕ) → o ≤ n → sub_ℕ n o ≡ pos (n - o)
sub_above n o h = cond_false _ _ _ (le-ltb n o h)

-- two tests that hold together
pub ltb_agrees : (a b c d : ℕ) → (a < b → c < d) → (b ≤ a → d ≤ c) → ltb c d ≡ ltb a b
ltb_agrees a b c d f g =
    ⊎_elim (λ h. lt-ltb c d (f h) ∙ sym (lt-ltb a b h)) (λ h. le-ltb c d (g h) ∙ sym (le-ltb a b h)) (side a b)

pub eqb_agrees : (a b c d : ℕ) → (a ≡ b → c ≡ d) → (c ≡ d → a ≡ b) → eqb c d ≡ eqb a b
eqb_agrees a b c d f g = go (ℕ_discrete a b)
  where
    go : Dec (a ≡ b) → eqb c d ≡ eqb a b
    go (yes e) = eq-eqb c d (f e) ∙ sym (eq-eqb a b e)
    go (no n) = ne_eqb c d (λ e. n (g e)) ∙ sym (ne_eqb a b n)

pub order : (a b : ℕ) → lt_z (value a) (value b) ≡ ltb a b
order a b = go (side a 32768) (side b 32768)
  where
    go : (a < 32768) ⊎ (32768 ≤ a) → (b < 32768) ⊎ (32768 ≤ b) → lt_z (value a) (value b) ≡ ltb a b
    go (inl h) (inl k) = rw (sub_below a 32768 h, sub_below b 32768 k) (ltb_agrees a b (32768 - suc b) (32768 - suc a) (λ l. omega arith) (λ l. omega arith))
    go (inl h) (inr k) = rw (sub_below a 32768 h, sub_above b 32768 k) (sym (lt-ltb a b (omega arith)))
    go (inr h) (inl k) = rw (sub_above a 32768 h, sub_below b 32768 k) (sym (le-ltb a b (omega arith)))
    go (inr h) (inr k) = rw (sub_above a 32768 h, sub_above b 32768 k) (ltb_agrees a b (a - 32768) (b - 32768) (λ l. omega arith) (λ l. omega arith))

-- ---- differences
pub sub_is : (a b : ℕ) → sub_ℕ a b ≡ pos a -ℤ pos b
sub_is a ℕ.zero = sub_above a 0 (omega arith) ∙ ap pos (omega arith)
sub_is a (suc b) = refl

-- (x − o) − (y − o) is x − y
cancel : (x y o : ℤ) → (x -ℤ o) -ℤ (y -ℤ o) ≡ x -ℤ y
cancel x y o =
    ap (λ (z : ℤ). (x -ℤ o) +ℤ z) (neg_ℤ-+ℤ y (neg_ℤ o) ∙ ap (λ (z : ℤ). neg_ℤ y +ℤ z) (neg_ℤ-neg_ℤ o) ∙ +ℤ_comm (neg_ℤ y) o)
    ∙ +ℤ_assoc x (neg_ℤ o) (o +ℤ neg_ℤ y)
    ∙ ap (λ (z : ℤ). x +ℤ z) (sym (+ℤ_assoc (neg_ℤ o) o (neg_ℤ y)) ∙ ap (λ (z : ℤ). z +ℤ neg_ℤ y) (+ℤ_invl o) ∙ +ℤ_idl (neg_ℤ y))

pub sub_sub : (a b o : ℕ) → sub_ℕ a o -ℤ sub_ℕ b o ≡ sub_ℕ a b
sub_sub a b o = ap₂ (λ (x y : ℤ). x -ℤ y) (sub_is a o) (sub_is b o) ∙ cancel (pos a) (pos b) (pos o) ∙ sym (sub_is a b)

pub size_sub : (a b : ℕ) → nat_abs (sub_ℕ a b) ≡ (a - b) + (b - a)
size_sub a b = go (side a b)
  where
    go : (a < b) ⊎ (b ≤ a) → nat_abs (sub_ℕ a b) ≡ (a - b) + (b - a)
    go (inl h) = rw (sub_below a b h) (omega arith)
    go (inr h) = rw (sub_above a b h) (omega arith)

pub apart : (a b : ℕ) → nat_abs (value a -ℤ value b) ≡ (a - b) + (b - a)
apart a b = ap nat_abs (sub_sub a b 32768) ∙ size_sub a b

-- ---- the negative
pub negated : (a : ℕ) → a ≤ 65536 → value (65536 - a) ≡ neg_ℤ (value a)
negated a l = go (side a 32768) (side 32768 a)
  where
    go : (a < 32768) ⊎ (32768 ≤ a) → (32768 < a) ⊎ (a ≤ 32768) → value (65536 - a) ≡ neg_ℤ (value a)
    go (inl h) k = rw (sub_below a 32768 h, sub_above (65536 - a) 32768 (omega arith)) (ap pos (omega arith))
    go (inr h) (inl k) =
        sub_below (65536 - a) 32768 (omega arith) ∙ ap negsuc (omega arith)
        ∙ sym (ap neg_ℤ (sub_above a 32768 h ∙ ap pos (above_by a k)))
      where
        above_by : (a : ℕ) → 32768 < a → a - 32768 ≡ suc (a - 32769)
        above_by a h = omega arith
    go (inr h) (inr k) = let e : a ≡ 32768 = omega arith in rw e

-- ---- the middle, rounded up where it is a half
-- (x − o) + (y − o) is (x + y) − (o + o)
gather : (x y o p : ℤ) → (x -ℤ o) +ℤ (y -ℤ p) ≡ (x +ℤ y) -ℤ (o +ℤ p)
gather x y o p =
    +ℤ_assoc x (neg_ℤ o) (y +ℤ neg_ℤ p)
    ∙ ap (λ (z : ℤ). x +ℤ z) (sym (+ℤ_assoc (neg_ℤ o) y (neg_ℤ p)) ∙ ap (λ (z : ℤ). z +ℤ neg_ℤ p) (+ℤ_comm (neg_ℤ o) y) ∙ +ℤ_assoc y (neg_ℤ o) (neg_ℤ p))
    ∙ sym (+ℤ_assoc x y (neg_ℤ o +ℤ neg_ℤ p))
    ∙ ap (λ (z : ℤ). (x +ℤ y) +ℤ z) (sym (neg_ℤ-+ℤ o p))

pub sub_add : (a b o p : ℕ) → sub_ℕ a o +ℤ sub_ℕ b p ≡ sub_ℕ (a + b) (o + p)
sub_add a b o p = ap₂ (λ (x y : ℤ). x +ℤ y) (sub_is a o) (sub_is b p) ∙ gather (pos a) (pos b) (pos o) (pos p) ∙ sym (sub_is (a + b) (o + p))

half : (n : ℕ) → shr_z (sub_ℕ n 65536) 2 ≡ value (n / 2)
half n = go (side n 65536)
  where
    go : (n < 65536) ⊎ (65536 ≤ n) → shr_z (sub_ℕ n 65536) 2 ≡ value (n / 2)
    go (inl h) = rw (sub_below n 65536 h, sub_below (n / 2) 32768 (omega arith)) (ap negsuc (omega arith))
    go (inr h) = rw (sub_above n 65536 h, sub_above (n / 2) 32768 (omega arith)) (ap pos (omega arith))

pub middle : (a b : ℕ) → value ((a + b + 1) / 2) ≡ shr_z (value a +ℤ value b +ℤ pos 1) 2
middle a b =
    sym (half (a + b + 1))
    ∙ sym (ap (λ (z : ℤ). shr_z z 2) (ap (λ (z : ℤ). z +ℤ sub_ℕ 1 0) (sub_add a b 32768 32768) ∙ sub_add (a + b) 1 65536 0))

-- ---- the size of a value
-- one below 65536 that is not 0 stands for a value of −32767 to 32767
pub size : (a : ℕ) → 1 ≤ a → a < 65536 → nat_abs (value a) ≤ 32767
size a h k = rw (size_sub a 32768) (omega arith)

-- and only such a one does
pub sized : (a : ℕ) → nat_abs (value a) ≤ 32767 → 1 ≤ a
sized a h = let h' : (a - 32768) + (32768 - a) ≤ 32767 = rw (size_sub a 32768) at h in omega arith

-- ---- 0 is 32768
pub zero : (a : ℕ) → eqb (nat_abs (value a)) 0 ≡ eqb a 32768
zero a = rw (size_sub a 32768) (eqb_agrees a 32768 ((a - 32768) + (32768 - a)) 0 (λ e. omega arith) (λ e. omega arith))

-- ---- each value of −32767 to 32767 is kept as a number
pub record Kept (z : ℤ) : Type 0 where
  pub code : ℕ
  pub least : 1 ≤ code
  pub most : code < 65536
  pub stands : value code ≡ z

pub kept : (z : ℤ) → nat_abs z ≤ 32767 → Kept z
kept (pos n) h =
    record {
      code = 32768 + n;
      least = omega arith;
      most = omega arith;
      stands = sub_above (32768 + n) 32768 (omega arith) ∙ ap pos (omega arith);
    }
kept (negsuc n) h =
    record {
      code = 32767 - n;
      least = omega arith;
      most = omega arith;
      stands = sub_below (32767 - n) 32768 (omega arith) ∙ ap negsuc (omega arith);
    }

-- the negative and the middle stay in that range
pub size_negative : (z : ℤ) → nat_abs (neg_ℤ z) ≡ nat_abs z
size_negative (pos ℕ.zero) = refl
size_negative (pos (suc n)) = refl
size_negative (negsuc n) = refl

pub size_middle : (x y : ℤ) → nat_abs x ≤ 32767 → nat_abs y ≤ 32767 → nat_abs (shr_z (x +ℤ y +ℤ pos 1) 2) ≤ 32767
size_middle x y h k = go (kept x h) (kept y k)
  where
    go : Kept x → Kept y → nat_abs (shr_z (x +ℤ y +ℤ pos 1) 2) ≤ 32767
    go p q =
        let a = p.code in
        let b = q.code in
        let l : 1 ≤ a = p.least in
        let m : 1 ≤ b = q.least in
        let u : a < 65536 = p.most in
        let v : b < 65536 = q.most in
        subst (λ (z : ℤ). nat_abs z ≤ 32767)
        (middle a b ∙ ap₂ (λ (s t : ℤ). shr_z (s +ℤ t +ℤ pos 1) 2) p.stands q.stands)
        (size ((a + b + 1) / 2) (omega arith) (omega arith))
