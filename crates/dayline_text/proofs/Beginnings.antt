-- The first line, piece by piece: what a piece adds to it, and the whole line.
--     found              a piece with an LF
--     at_end, goes_on    the end of the input, and a piece without an LF
--     none, more         no piece yet, and a piece without an LF more
--     begins             the line ends in a piece
-- Assumes nothing.
use mathlib.Core.Path.{◌≡◌, refl, sym, ◌∙◌, ap, subst}
use mathlib.Core.Bool.{Bool, true, false, ◌||◌}
use mathlib.Core.List.{List, [], ◌∷◌, ◌++◌, append_assoc}
use Prim.Native.Nat.{ℕ, suc, ◌+◌, ◌≤◌}
use native.Mathlib.Omega.{arith}
use borrow.Author.Tests.{lt-ltb, le-ltb, ltb-true, ltb-false, eqb-true}
use lib.Dec.{eqb, ltb}
use lib.ListN.{length, take, length-append}
use lib.Seq.{take_all}
use Rattle.std.proofs.lemmas.Option.{none-some, same_Some}
use Rattle.std.specs.Bool.{then_some}
use Rattle.laws.proofs.Bools.{Known, is_true, is_false, known, cond_true, cond_false, or_false_left}
use Rattle.io.specs.Counts.{IsPrefixLen}
use Rattle.std.specs.Prelude.{◌==◌, Option, Some, None, Result, Ok, Err, IfOk}
use Rattle.std.specs.List.{position}
use Rattle.dayline_text.specs.Cuts.{index}
use Rattle.dayline_text.proofs.Cuts.{index_upto, found as found_at, not_found}
use Rattle.dayline_text.specs.FirstLine.{first_line}
use Rattle.dayline_text.specs.Line.{goes}
use Rattle.dayline_text.specs.declared.first_line.Line.{Line}
use Rattle.dayline_text.specs.Input.{line_feed, line_in, reports_from, ends_in, Taken, Takes, Unended, Begins}
use Rattle.dayline_text.specs.declared.input.Place.{Place}

-- ---- a piece
module _ (l r : Line) (s : List ℕ) where
  -- one with an LF, at k
  pub found : {k : ℕ} → position (λ x. x == line_feed) s ≡ Some k → ((t : List ℕ) → goes r t ≡ goes l (take k s ++ t))
      → Taken l s r (Some (record { from = k + 1; got = length s }))
  found {k} p e =
      record {
        line = λ t. e t ∙ ap (λ (j : ℕ). goes l (take j s ++ t)) (sym at);
        place =
            ap (λ (j : ℕ). Some (record { from = j; got = length s }))
            (ap (λ (j : ℕ). j + 1) (sym at) ∙ sym (cond_true (ltb (index line_feed s) (length s)) (index line_feed s + 1) (length s) here))
            ∙ sym (ap (λ (b : Bool). then_some (b || eqb (length s) 0) (record { from = reports_from s; got = length s })) here);
      }
    where
      at : index line_feed s ≡ k
      at = (found_at line_feed s p).1

      here : ltb (index line_feed s) (length s) ≡ true
      here = lt-ltb (index line_feed s) (length s) (omega (arith, at, (found_at line_feed s p).0))

  -- one without
  pub whole : position (λ x. x == line_feed) s ≡ None → ((t : List ℕ) → goes r t ≡ goes l (s ++ t))
      → Taken l s r (then_some (eqb (length s) 0) (record { from = 0; got = length s }))
  whole p e =
      record {
        line = λ t. e t ∙ ap (λ (x : List ℕ). goes l (x ++ t)) (sym (take_all (index line_feed s) s (omega (arith, all))));
        place = go (known (eqb (length s) 0));
      }
    where
      all : index line_feed s ≡ length s
      all = not_found line_feed s p

      gone : ltb (index line_feed s) (length s) ≡ false
      gone = le-ltb (index line_feed s) (length s) (omega (arith, all))

      ended : {b : Bool} → eqb (length s) 0 ≡ b → ends_in s ≡ b
      ended e = ap (λ (b : Bool). b || eqb (length s) 0) gone ∙ e

      from : length s ≡ 0 → 0 ≡ reports_from s
      from z = sym (cond_false (ltb (index line_feed s) (length s)) (index line_feed s + 1) (length s) gone ∙ z)

      go : Known (eqb (length s) 0)
          → then_some {T = Place} (eqb (length s) 0) (record { from = 0; got = length s }) ≡ then_some (ends_in s) (record { from = reports_from s; got = length s })
      go (is_true t) =
          ap (λ (b : Bool). then_some b (record { from = 0; got = length s })) t
          ∙ ap (λ (j : ℕ). Some (record { from = j; got = length s })) (from (eqb-true (length s) 0 t))
          ∙ sym (ap (λ (b : Bool). then_some b (record { from = reports_from s; got = length s })) (ended t))
      go (is_false f) =
          ap (λ (b : Bool). then_some b (record { from = 0; got = length s })) f
          ∙ sym (ap (λ (b : Bool). then_some b (record { from = reports_from s; got = length s })) (ended f))

-- what a read of n bytes gave of it
module _ {E : Type 0} {answer : Result ℕ E} (l r : Line) (piece : List ℕ) (n : ℕ) (a : answer ≡ Ok n) (c : IsPrefixLen n piece) where
  as_long : (q : ℕ → Option Place) → Taken l (take n piece) r (q (length (take n piece))) → Takes l answer piece r (Ok (q n))
  as_long q k = rw a (subst (λ (m : ℕ). Taken l (take n piece) r (q m)) (sym c.1) k, refl)

  pub takes_found : {k : ℕ} → position (λ x. x == line_feed) (take n piece) ≡ Some k → ((t : List ℕ) → goes r t ≡ goes l (take k (take n piece) ++ t))
      → Takes l answer piece r (Ok (Some (record { from = k + 1; got = n })))
  takes_found {k} p e = as_long (λ m. Some (record { from = k + 1; got = m })) (found l r (take n piece) p e)

  pub takes_whole : position (λ x. x == line_feed) (take n piece) ≡ None → ((t : List ℕ) → goes r t ≡ goes l (take n piece ++ t))
      → {o : Option Place} → o ≡ then_some {T = Place} (eqb n 0) (record { from = 0; got = n }) → Takes l answer piece r (Ok o)
  takes_whole p e q = rw q (as_long (λ m. then_some (eqb m 0) (record { from = 0; got = m })) (whole l r (take n piece) p e))

-- ---- the pieces before
index_append : (b : ℕ) (xs ys : List ℕ) → index b xs ≡ length xs → index b (xs ++ ys) ≡ length xs + index b ys
unfolding index
index_append b [] ys e = omega arith
index_append b (x ∷ xs) ys e = go (known (eqb x b)) (index_append b xs ys)
  where
    go : Known (eqb x b) → (index b xs ≡ length xs → index b (xs ++ ys) ≡ length xs + index b ys) → index b (x ∷ xs ++ ys) ≡ suc (length xs) + index b ys
    go (is_true t) on = let h : 0 ≡ suc (length xs) = sym (cond_true (eqb x b) 0 (suc (index b xs)) t) ∙ e in absurd (omega arith)
    go (is_false f) on =
        let h : suc (index b xs) ≡ suc (length xs) = sym (cond_false (eqb x b) 0 (suc (index b xs)) f) ∙ e in
        let k : index b xs ≡ length xs = omega arith in
        cond_false (eqb x b) 0 (suc (index b (xs ++ ys))) f ∙ omega (arith, on k)

-- nothing is read
pub none : (l : Line) → ((t : List ℕ) → goes l t ≡ first_line t) → Unended l
unfolding index
none l e = record { bytes = []; whole = refl; line = e }

unplaced : (b : Bool) (p : Place) → None ≡ then_some b p → b ≡ false
unplaced true p e = absurd (none-some p e)
unplaced false p e = refl

placed : (b : Bool) (p q : Place) → Some q ≡ then_some b p → (b ≡ true) × (p ≡ q)
placed true p q e = (refl, same_Some p q (sym e))
placed false p q e = absurd (none-some q (sym e))

-- a piece more, in which the line does not end
module _ (l r : Line) (s : List ℕ) (u : Unended l) where
  goes_on : Taken l s r None → Unended r
  goes_on k =
      record {
        bytes = u.bytes ++ s;
        whole = index_append line_feed u.bytes s u.whole ∙ omega (arith, all, length-append u.bytes s);
        line = λ t.
            k.line t ∙ ap (λ (x : List ℕ). goes l (x ++ t)) lined
            ∙ u.line (s ++ t)
            ∙ ap first_line (sym (append_assoc u.bytes s t));
      }
    where
      late : ltb (index line_feed s) (length s) ≡ false
      late = or_false_left _ _ (unplaced (ends_in s) _ k.place)

      all : index line_feed s ≡ length s
      all = omega (arith, ltb-false (index line_feed s) (length s) late, index_upto line_feed s)

      lined : line_in s ≡ s
      lined = take_all (index line_feed s) s (omega (arith, all))

from_upto : (s : List ℕ) → reports_from s ≤ length s
from_upto s = go (known (ltb (index line_feed s) (length s)))
  where
    go : Known (ltb (index line_feed s) (length s)) → reports_from s ≤ length s
    go (is_true t) =
        let h : reports_from s ≡ index line_feed s + 1 = cond_true (ltb (index line_feed s) (length s)) (index line_feed s + 1) (length s) t in
        omega (arith, ltb-true (index line_feed s) (length s) t)
    go (is_false f) = let h : reports_from s ≡ length s = cond_false (ltb (index line_feed s) (length s)) (index line_feed s + 1) (length s) f in omega arith

-- the line ends in this piece
begins_in : (l r : Line) (piece : List ℕ) (n : ℕ) (p : Place) → Unended l → IsPrefixLen n piece → Taken l (take n piece) r (Some p)
    → Begins piece (record { line = r; place = p })
begins_in l r piece n p u c k =
    let h = placed (ends_in s) (record { from = reports_from s; got = length s }) p k.place in
    let q : record { from = reports_from s; got = n } ≡ p = ap (λ (m : ℕ). record { from = reports_from s; got = m }) c.1 ∙ h.1 in
    subst (λ (q : Place). Begins piece (record { line = r; place = q })) q
    (record {
      placed = record { start = omega (arith, from_upto s, c.1); upto = c.0 };
      bytes = u.bytes;
      whole = u.whole;
      line = λ t. k.line t ∙ u.line (line_in s ++ t);
      ended = h.0;
      from = refl;
    })
  where
    s : List ℕ
    s = take n piece

-- ---- what one read more leaves
module _ {E : Type 0} (l r : Line) (piece : List ℕ) where
  pub more : (answer : Result ℕ E) → IfOk answer (λ n. IsPrefixLen n piece) → Unended l → Takes l answer piece r (Ok None) → Unended r
  more (Ok n) c u k = goes_on l r (take n piece) u k.0
  more (Err e) c u k = absurd cc

  pub begins : (p : Place) (answer : Result ℕ E) → IfOk answer (λ n. IsPrefixLen n piece) → Unended l → Takes l answer piece r (Ok (Some p))
      → Begins piece (record { line = r; place = p })
  begins p (Ok n) c u k = begins_in l r piece n p u c k.0
  begins p (Err e) c u k = absurd cc
