-- The first line: the end of a number, one byte more, a piece more.
-- Assumes nothing.
use mathlib.Core.Path.{◌≡◌, refl, sym, ◌∙◌, ap, ap₂}
use mathlib.Core.Bool.{Bool, true, false, ◌&&◌}
use mathlib.Core.List.{List, [], ◌∷◌, ◌++◌, append_assoc}
use Prim.Native.Nat.{ℕ, ◌+◌, ◌-◌, ◌<◌, ◌≤◌}
use native.Mathlib.Numerals.{add-one}
use native.Mathlib.Omega.{arith}
use borrow.Author.Tests.{lt-leb}
use lib.Dec.{leb}
use lib.ListN.{length, take, drop, get_or, length-append, drop_of_length-le}
use lib.Seq.{take_all, drop-cons}
use Rattle.std.specs.Prelude.{Option, None, Some, unwrap_or, Result, Ok, Err, OnOk, OnErr}
use Rattle.std.specs.Result.{is_ok}
use Rattle.laws.proofs.Bools.{and_false_left, and_false_right}
use Rattle.synop_text.specs.Characters.{is_digit}
use Rattle.texts.specs.Few.{Few}
use Rattle.dayline_text.specs.Cuts.{is_blank}
use Rattle.dayline_text.specs.declared.first_line.Line.{Line}
use Rattle.dayline_text.specs.FirstLine.{cannot_open, first, first_line, is_whole, is_plain, closed, grown, numbers_from}
use Rattle.dayline_text.specs.Line.{with, goes, Ended}

-- ---- lines that cannot open a store
first_not : (ns : List ℕ) → first false ns ≡ cannot_open
unfolding first
first_not ns = refl

first_many : (p : Bool) (ns : List ℕ) → 67 < length ns → first p ns ≡ cannot_open
unfolding first
first_many p ns h = rw (and_false_right p (is_whole (length ns)) (and_false_left _ _ (and_false_right (leb 5 (length ns)) _ (lt-leb (length ns) 67 h))))

-- ---- the end of a number
module _ (l : Line) where
  -- none is under way
  pub end_none : l.number ≡ None → Ended l l
  end_none e = record { none = e; same = λ plain rest. rw e }

  module _ (n : ℕ) (e : l.number ≡ Some n) where
    -- a number too many
    end_over : 67 ≤ length l.numbers.items → (v : Few ℕ) → Ended l (record { numbers = v; number = None; good = l.good && false })
    end_over h v =
        record {
          none = refl;
          same = λ plain rest.
              ap (λ (b : Bool). first (b && plain) (v.items ++ rest)) (and_false_right l.good false refl) ∙ first_not _
              ∙ sym (ap (λ (o : Option ℕ). with l plain (closed o rest)) e ∙ first_many _ _ (many rest));
        }
      where
        many : (rest : List ℕ) → 67 < length (l.numbers.items ++ n ∷ rest)
        many rest = omega (arith, length-append l.numbers.items (n ∷ rest))

    -- one number more
    end_more : (v : Few ℕ) → v.items ≡ l.numbers.items ++ n ∷ [] → Ended l (record { numbers = v; number = None; good = l.good && true })
    end_more v q =
        record {
          none = refl;
          same = λ plain rest.
              ap₂ (λ (b : Bool) (ns : List ℕ). first (b && plain) (ns ++ rest)) (kept l.good) q
              ∙ ap (first (l.good && plain)) (append_assoc l.numbers.items (n ∷ []) rest)
              ∙ sym (ap (λ (o : Option ℕ). with l plain (closed o rest)) e);
        }
      where
        kept : (b : Bool) → (b && true) ≡ b
        kept true = refl
        kept false = refl

    -- what the list answers where it is given the number
    pub end_pushed : {E : Type 0} (r : Result Unit E) (b : Bool) (v : Few ℕ) → b ≡ is_ok r
        → v.items ≡ l.numbers.items ++ take (67 - length l.numbers.items) (n ∷ []) → OnOk r (length l.numbers.items < 67)
        → OnErr r (length l.numbers.items ≡ 67) → Ended l (record { numbers = v; number = None; good = l.good && b })
    end_pushed (Ok x) b v q a o f = rw q (end_more v (a ∙ ap (λ (t : List ℕ). l.numbers.items ++ t) (take_all (67 - length l.numbers.items) (n ∷ []) (omega arith))))
    end_pushed (Err x) b v q a o f = rw q (end_over (omega arith) v)

-- ---- one byte more
module _ (l : Line) (b : ℕ) (s : List ℕ) where
  pub digit_more : is_digit b ≡ true
      → goes (record { numbers = l.numbers; number = Some (grown (unwrap_or l.number 0) b); good = l.good }) s ≡ goes l (b ∷ s)
  unfolding goes is_plain numbers_from
  digit_more e = rw e

  -- no digit: a number that was under way ends
  pub other_more : (r : Line) → Ended l r → is_digit b ≡ false
      → goes (record { numbers = r.numbers; number = r.number; good = r.good && is_blank b }) s ≡ goes l (b ∷ s)
  unfolding goes is_plain numbers_from
  other_more r v e =
      rw (e, v.none) (ap (λ (p : Bool). first p (r.numbers.items ++ numbers_from None s)) (joined r.good (is_blank b) (is_plain s))
      ∙ v.same (is_blank b && is_plain s) (numbers_from None s))
    where
      joined : (x y z : Bool) → ((x && y) && z) ≡ (x && (y && z))
      joined true y z = refl
      joined false y z = refl

-- ---- a piece more: of the line l that goes on with s the first i bytes are read
pub record Reading (l : Line) (s : List ℕ) (r : Line) (i : ℕ) : Type 0 where
  pub same : (t : List ℕ) → goes r (drop i s ++ t) ≡ goes l (s ++ t)

pub reading_none : (l : Line) (s : List ℕ) → Reading l s l 0
reading_none l s = record { same = λ t. refl }

pub reading_more : {l : Line} {s : List ℕ} {r : Line} {i : ℕ} (new : Line) → Reading l s r i → i < length s
    → ((t : List ℕ) → goes new t ≡ goes r (get_or s i 0 ∷ t)) → Reading l s new (i + 1)
reading_more {l} {s} {r} {i} new v h f =
    record {
      same = λ t.
          f (drop (i + 1) s ++ t)
          ∙ sym (ap (λ (x : List ℕ). goes r (x ++ t)) (drop-cons s i 0 h ∙ ap (λ (k : ℕ). get_or s i 0 ∷ drop k s) (sym (add-one i))))
          ∙ v.same t;
    }

pub read_all : {l : Line} {s : List ℕ} {r : Line} {i : ℕ} → Reading l s r i → length s ≤ i → (t : List ℕ) → goes r t ≡ goes l (s ++ t)
read_all {l} {s} {r} {i} v h t = ap (λ (x : List ℕ). goes r (x ++ t)) (sym (drop_of_length-le s h)) ∙ v.same t

-- ---- nothing read
pub new_line : (l : Line) → l.numbers.items ≡ [] → l.number ≡ None → l.good ≡ true → (s : List ℕ) → goes l s ≡ first_line s
unfolding goes
new_line l e f g s = rw (e, f, g)
