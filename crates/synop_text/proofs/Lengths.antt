-- The kind of a group of each length, by its characters.
-- Assumes nothing.
use mathlib.Core.Path.{◌≡◌, refl, ◌∙◌}
use mathlib.Core.List.{List, [], ◌∷◌}
use Prim.Native.Nat.{ℕ}
use native.Mathlib.Omega.{arith}
use lib.ListN.{length, get_or}
use borrow.Author.Tests.{ne_eqb}
use Rattle.synop_text.specs.Kinds.{of_three, of_four, of_five, kind_of}
use Rattle.synop_text.specs.declared.Group.TheVariants.{Other}

pub three : (g : List ℕ) → length g ≡ 3 → kind_of g ≡ of_three (get_or g 0 0) (get_or g 1 0) (get_or g 2 0)
unfolding kind_of
three [] h = absurd (omega arith)
three (a ∷ []) h = absurd (omega arith)
three (a ∷ b ∷ []) h = absurd (omega arith)
three (a ∷ b ∷ c ∷ []) h = refl
three (a ∷ b ∷ c ∷ d ∷ g) h = absurd (omega arith)

pub four : (g : List ℕ) → length g ≡ 4 → kind_of g ≡ of_four (get_or g 0 0) (get_or g 1 0) (get_or g 2 0) (get_or g 3 0)
unfolding kind_of
four [] h = absurd (omega arith)
four (a ∷ []) h = absurd (omega arith)
four (a ∷ b ∷ []) h = absurd (omega arith)
four (a ∷ b ∷ c ∷ []) h = absurd (omega arith)
four (a ∷ b ∷ c ∷ d ∷ []) h = refl
four (a ∷ b ∷ c ∷ d ∷ e ∷ g) h = absurd (omega arith)

pub five : (g : List ℕ) → length g ≡ 5 → kind_of g ≡ of_five (record { a = get_or g 0 0; b = get_or g 1 0; c = get_or g 2 0; d = get_or g 3 0; e = get_or g 4 0 })
unfolding kind_of
five [] h = absurd (omega arith)
five (a ∷ []) h = absurd (omega arith)
five (a ∷ b ∷ []) h = absurd (omega arith)
five (a ∷ b ∷ c ∷ []) h = absurd (omega arith)
five (a ∷ b ∷ c ∷ d ∷ []) h = absurd (omega arith)
five (a ∷ b ∷ c ∷ d ∷ e ∷ []) h = refl
five (a ∷ b ∷ c ∷ d ∷ e ∷ f ∷ g) h = absurd (omega arith)

-- no other length has a kind of its own
pub others : (g : List ℕ) → (length g ≡ 3 → ⊥) → (length g ≡ 4 → ⊥) → (length g ≡ 5 → ⊥) → kind_of g ≡ Other
unfolding kind_of
others [] p q r = refl
others (a ∷ []) p q r = refl
others (a ∷ b ∷ []) p q r = refl
others (a ∷ b ∷ c ∷ []) p q r = absurd (p refl)
others (a ∷ b ∷ c ∷ d ∷ []) p q r = absurd (q refl)
others (a ∷ b ∷ c ∷ d ∷ e ∷ []) p q r = absurd (r refl)
others (a ∷ b ∷ c ∷ d ∷ e ∷ f ∷ g) p q r = refl

-- nor have three characters of which the first begins none of their kinds
pub other_three : (g : List ℕ) → length g ≡ 3 → (get_or g 0 0 ≡ 78 → ⊥) → (get_or g 0 0 ≡ 51 → ⊥) → (get_or g 0 0 ≡ 52 → ⊥) → (get_or g 0 0 ≡ 53 → ⊥) → kind_of g ≡ Other
unfolding of_three
other_three g h n x y z =
    three g h ∙ rw (ne_eqb (get_or g 0 0) 78 n, ne_eqb (get_or g 0 0) 51 x, ne_eqb (get_or g 0 0) 52 y, ne_eqb (get_or g 0 0) 53 z)
