-- Tests joined, negated and chosen by.
-- Assumes nothing.
use mathlib.Core.Path.{◌≡◌, refl, sym, ◌∙◌, ap₂}
use mathlib.Core.Bool.{Bool, true, false, ◌&&◌, ◌||◌, cond}

module _ {ℓ} {A : Type ℓ} where
  pub cond_true : (b : Bool) (x y : A) → b ≡ true → cond b x y ≡ x
  cond_true b x y e = rw e

  pub cond_false : (b : Bool) (x y : A) → b ≡ false → cond b x y ≡ y
  cond_false b x y e = rw e

  -- the same, as a rule is met: by the arm that is taken, or further on
  pub took : (b : Bool) (x y : A) → b ≡ true → x ≡ cond b x y
  took b x y e = rw e

  pub skip : (b : Bool) (x y z : A) → b ≡ false → z ≡ y → z ≡ cond b x y
  skip b x y z e h = rw e h

  -- both arms alike
  pub cond_same : (b : Bool) (x : A) → cond b x x ≡ x
  cond_same true x = refl
  cond_same false x = refl

-- a function goes into the arms
pub cond_ap {ℓ ℓ'} : {A : Type ℓ} {B : Type ℓ'} (f : A → B) (b : Bool) (x y : A) → f (cond b x y) ≡ cond b (f x) (f y)
cond_ap f true x y = refl
cond_ap f false x y = refl

-- what a callee's answer r says of the test b that it is
pub via : {r b v : Bool} → r ≡ b → r ≡ v → b ≡ v
via e h = sym e ∙ h

-- two answers joined are the two tests joined
pub or_eq : {r s a b : Bool} → r ≡ a → s ≡ b → (r || s) ≡ (a || b)
or_eq p q = ap₂ ◌||◌ p q

pub and_eq : {r s a b : Bool} → r ≡ a → s ≡ b → (r && s) ≡ (a && b)
and_eq p q = ap₂ ◌&&◌ p q

pub and_true : (a b : Bool) → a ≡ true → b ≡ true → (a && b) ≡ true
and_true a b p q = rw p q

pub and_left : (a b : Bool) → (a && b) ≡ true → a ≡ true
and_left true b e = refl
and_left false b e = e

pub and_right : (a b : Bool) → (a && b) ≡ true → b ≡ true
and_right true b e = e
and_right false true e = refl
and_right false false e = e

-- both of two that hold together
pub both : {a b : Bool} → (a && b) ≡ true → (a ≡ true) × (b ≡ true)
both {a} {b} e = (and_left a b e, and_right a b e)

-- all of four, and of seven, in their order
pub four : {a b c d : Bool} → (a && b && c && d) ≡ true → (a ≡ true) × (b ≡ true) × (c ≡ true) × (d ≡ true)
four e = let p = both e in let q = both p.0 in let r = both q.0 in (r.0, r.1, q.1, p.1)

pub seven : {a b c d x y z : Bool} → (a && b && c && d && x && y && z) ≡ true
    → (a ≡ true) × (b ≡ true) × (c ≡ true) × (d ≡ true) × (x ≡ true) × (y ≡ true) × (z ≡ true)
seven e =
    let p = both e in
    let q = both p.0 in
    let r = both q.0 in
    let s = four r.0 in
    (s.0, s.1, s.2, s.3, r.1, q.1, p.1)

pub and_false_left : (a b : Bool) → a ≡ false → (a && b) ≡ false
and_false_left a b p = rw p

pub and_false_right : (a b : Bool) → b ≡ false → (a && b) ≡ false
and_false_right true b q = q
and_false_right false b q = refl

pub or_true_left : (a b : Bool) → a ≡ true → (a || b) ≡ true
or_true_left a b p = rw p

pub or_true_right : (a b : Bool) → b ≡ true → (a || b) ≡ true
or_true_right true b q = refl
or_true_right false b q = q

-- of two, the other
pub or_second : {a b : Bool} → a ≡ false → (a || b) ≡ true → b ≡ true
or_second f h = rw f at h

pub or_false : (a b : Bool) → a ≡ false → b ≡ false → (a || b) ≡ false
or_false a b p q = rw p q

pub or_false_left : (a b : Bool) → (a || b) ≡ false → a ≡ false
or_false_left true b e = e
or_false_left false b e = refl

pub or_false_right : (a b : Bool) → (a || b) ≡ false → b ≡ false
or_false_right true true e = e
or_false_right true false e = refl
or_false_right false b e = e

-- a test is true or false
pub data Known (b : Bool) : Type 0 where
  is_true : b ≡ true → Known b
  is_false : b ≡ false → Known b

pub known : (b : Bool) → Known b
known true = is_true refl
known false = is_false refl

-- what holds of both arms holds of the choice
pub cond_keeps {ℓ} : {A : Type ℓ} (P : A → Type 0) (b : Bool) {x y : A} → P x → P y → P (cond b x y)
cond_keeps P true p q = p
cond_keeps P false p q = q

-- and where each arm's claim needs its test
module _ {A : Type 0} where
  pub by_cond : (P : A → Type 0) (b : Bool) {x y : A} → (b ≡ true → P x) → (b ≡ false → P y) → P (cond b x y)
  by_cond P true p q = p refl
  by_cond P false p q = q refl
