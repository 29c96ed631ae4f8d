-- The kinds of group: "Groups are five characters, digits or `/`, except `AAXX`, `NIL`, `333`, `444`, `555`".
-- Assumes nothing.
use Rattle.std.specs.Prelude.{Bool, cond, ◌&&◌, List, [], ◌∷◌, map, ℕ, eqb, Option, None, Some}
use Rattle.synop_text.specs.Characters.{are_figures}
use Rattle.synop_text.specs.Groups.{groups}
use Rattle.synop_text.specs.declared.Characters.{Characters}
use Rattle.synop_text.specs.declared.Group.{Group}
use Rattle.synop_text.specs.declared.Group.TheVariants.{Other, Aaxx, Nil, Section, Five}

-- three characters are those three
abbrev pub are3 : ℕ → ℕ → ℕ → ℕ → ℕ → ℕ → Bool
are3 a b c x y z = (eqb a x && eqb b y) && eqb c z

-- `NIL`, `333`, `444`, `555`
unfoldable pub of_three : ℕ → ℕ → ℕ → Group
of_three a b c =
    cond (are3 a b c 78 73 76) Nil
    (cond (are3 a b c 51 51 51) (Section 3)
    (cond (are3 a b c 52 52 52) (Section 4)
    (cond (are3 a b c 53 53 53) (Section 5) Other)))

-- `AAXX`
unfoldable pub of_four : ℕ → ℕ → ℕ → ℕ → Group
of_four a b c d = cond (are3 a b c 65 65 88 && eqb d 88) Aaxx Other

-- "five characters, digits or `/`"
unfoldable pub of_five : Characters → Group
of_five x = cond (are_figures x) (Five x) Other

unfoldable pub kind_of : List ℕ → Group
kind_of [] = Other
kind_of (a ∷ []) = Other
kind_of (a ∷ b ∷ []) = Other
kind_of (a ∷ b ∷ c ∷ []) = of_three a b c
kind_of (a ∷ b ∷ c ∷ d ∷ []) = of_four a b c d
kind_of (a ∷ b ∷ c ∷ d ∷ e ∷ []) = of_five (record { a = a; b = b; c = c; d = d; e = e })
kind_of (a ∷ b ∷ c ∷ d ∷ e ∷ f ∷ more) = Other

-- f of the characters of a group of five, and x for any other group
module _ {A : Type 0} where
  abbrev pub on_five : A → (Characters → A) → Group → A
  on_five x f Other = x
  on_five x f Aaxx = x
  on_five x f Nil = x
  on_five x f (Section n) = x
  on_five x f (Five c) = f c

-- the characters of a group of five
unfoldable pub characters_of : Group → Option Characters
characters_of g = on_five None Some g

-- the kinds of a text's groups, in order
abbrev pub tokens : List ℕ → List Group
tokens s = map kind_of (groups s)
