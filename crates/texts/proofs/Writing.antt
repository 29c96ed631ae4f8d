-- Texts written one behind the other, and what is held of the whole.
-- Assumes nothing.
use mathlib.Core.Path.{◌≡◌, refl, sym, ◌∙◌, ap}
use mathlib.Core.List.{List, [], ◌∷◌, ◌++◌, append_assoc, append-nil}
use Prim.Native.Nat.{ℕ, zero, suc, ◌-◌, ◌≤◌}
use native.Mathlib.Omega.{arith}
use lib.ListN.{length, length-append}
use lib.Seq.{take_all, take-nil}
use Rattle.texts.specs.Written.{fitting, Adds, Holds}

-- of two texts the second has the room that the first leaves
fitting_two : (room : ℕ) (x y : List ℕ) → fitting room (x ++ y) ≡ fitting room x ++ fitting (room - length (fitting room x)) y
fitting_two zero x y = refl
fitting_two (suc room) [] y = let e : suc room ≡ suc room - 0 = omega arith in ap (λ (k : ℕ). fitting k y) e
fitting_two (suc room) (b ∷ x) y =
    let e : suc room - suc (length (fitting room x)) ≡ room - length (fitting room x) = omega arith in
    rw e (ap (λ (t : List ℕ). b ∷ t) (fitting_two room x y))

pub adds_none : (room : ℕ) (old : List ℕ) → Adds room old old []
adds_none room old = record { adds = sym (ap (λ (t : List ℕ). old ++ t) (take-nil (room - length old)) ∙ append-nil old) }

pub adds_two : {room : ℕ} {old mid new x y : List ℕ} → Adds room old mid x → Adds room mid new y → Adds room old new (x ++ y)
adds_two {room} {old} {x = x} {y} f g =
    let r = room - length old in
    let front = fitting r x in
    let left : room - length (old ++ front) ≡ r - length front = omega (arith, length-append old front) in
    record {
      adds =
          g.adds ∙ ap (λ (t : List ℕ). t ++ fitting (room - length t) y) f.adds ∙ append_assoc old front (fitting (room - length (old ++ front)) y)
          ∙ ap (λ (t : List ℕ). old ++ t) (ap (λ (k : ℕ). front ++ fitting k y) left ∙ sym (fitting_two r x y));
    }

-- into a text that was empty, where there is room for all
pub adds_all : {room : ℕ} {old new s : List ℕ} → old ≡ [] → length s ≤ room → Adds room old new s → new ≡ s
adds_all {room} {s = s} e h f = f.adds ∙ ap (λ (t : List ℕ). t ++ fitting (room - length t) s) e ∙ take_all (room - 0) s (omega arith)

pub holds_none : (room : ℕ) → Holds room [] []
holds_none room = sym (take-nil room)

pub holds_more : {room : ℕ} {old new s : List ℕ} (text : List ℕ) → Holds room old text → Adds room old new s → Holds room new (text ++ s)
holds_more {room} {s = s} text v f = f.adds ∙ ap (λ (t : List ℕ). t ++ fitting (room - length t) s) v ∙ sym (fitting_two room text s)
