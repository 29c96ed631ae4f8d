-- What the whole text of a bulletin gives, by its heading and the reports behind it.
-- Assumes nothing.
use mathlib.Core.Path.{◌≡◌, refl, sym, ◌∙◌, ap, subst}
use mathlib.Core.Bool.{Bool, true, false, ◌&&◌}
use mathlib.Core.List.{List, [], ◌∷◌, map}
use Prim.Native.Nat.{ℕ, zero, suc, ◌+◌, ◌≤◌}
use native.Mathlib.Omega.{arith}
use borrow.Author.Tests.{leb-true}
use lib.Dec.{leb, eqb}
use lib.ListN.{length, take, drop}
use lib.Seq.{take-length}
use Rattle.std.specs.Prelude as prelude
use Rattle.std.specs.Prelude.{Option, Some, None, Ok, Err, unwrap_or, ◌==◌}
use Rattle.std.specs.List.{position}
use Rattle.laws.proofs.Bools.{Known, is_true, is_false, known, and_right, cond_true, cond_false}
use Rattle.refusals.specs.declared.Refusal.{Refusal}
use Rattle.refusals.specs.declared.Refusal.TheVariants as why
use Rattle.refusals.specs.Refusals.{number}
use Rattle.store_layout.specs.Form.{ours}
use Rattle.store_layout.specs.Sound.{sound}
use Rattle.store_layout.specs.Valid.{is_rank}
use Rattle.synop_text.specs.Groups.{groups}
use Rattle.synop_text.specs.declared.Characters.{Characters}
use Rattle.bulletin.specs.declared.text.Start.{Start}
use Rattle.bulletin.specs.Heading.{heading_in, Began}
use Rattle.bulletin.specs.Pieces.{pieces, parted}
use Rattle.bulletin.specs.Rebuilt.{heading}
use Rattle.bulletin.proofs.Cuts.{piece_here, piece_last}
use Rattle.bulletin.specs.declared.Tally.{Tally}
use Rattle.bulletin.specs.Bulletin.{Result, headed, under, taken, result_in, result, Gave, Tallied, filings, at_first, counts, unchanged}
use Rattle.bulletin.proofs.Reports.{First, first, first_piece}

pub short : (n : ℕ) → (leb 1 n && leb n 16384) ≡ true → n ≤ 16384
short n e = leb-true n 16384 (and_right (leb 1 n) (leb n 16384) e)

-- ---- the first piece
-- it is x, as the code cuts it
pub data Front (t x : List ℕ) : Type 0 where
  front : (ps : List (List ℕ)) → pieces [] t ≡ x ∷ ps → Front t x

pub front_of : (t : List ℕ) {r : Option ℕ} {e : ℕ} → r ≡ position (λ b. b == 61) t → e ≡ unwrap_or r (length t) → Front t (take e t)
front_of t {r} f u = subst (λ (n : ℕ). Front t (take n t)) (sym u) (go r (sym f))
  where
    go : (r : Option ℕ) → position (λ b. b == 61) t ≡ r → Front t (take (unwrap_or r (length t)) t)
    go (Some e) h = front (pieces [] (drop (e + 1) t)) (piece_here t e h)
    go None h = front [] (piece_last t h ∙ ap (λ (p : List ℕ). p ∷ []) (sym (take-length t)))

-- without its first characters, as many as it has
cut_drop : (at : ℕ) (t x : List ℕ) (ps : List (List ℕ)) → pieces [] t ≡ x ∷ ps → at ≤ length x → pieces [] (drop at t) ≡ drop at x ∷ ps
unfolding pieces
cut_drop zero t x ps e h = e
cut_drop (suc a) [] x ps e h = absurd (none x ps e h)
  where
    none : (x : List ℕ) (ps : List (List ℕ)) → pieces [] [] ≡ x ∷ ps → suc a ≤ length x → ⊥
    none x ps e h = let z : [] ≡ x = cc in omega (arith, ap length z)
cut_drop (suc a) (b ∷ t) x ps e h = go (known (eqb b 61)) (first_piece t) (λ y qs k l. cut_drop a t y qs k l)
  where
    at_end : eqb b 61 ≡ true → pieces [] (b ∷ t) ≡ [] ∷ pieces [] t
    at_end p = cond_true _ _ _ p

    on : eqb b 61 ≡ false → pieces [] (b ∷ t) ≡ pieces (b ∷ []) t
    on p = cond_false _ _ _ p

    go : Known (eqb b 61) → First t → ((y : List ℕ) (qs : List (List ℕ)) → pieces [] t ≡ y ∷ qs → a ≤ length y → pieces [] (drop a t) ≡ drop a y ∷ qs)
        → pieces [] (drop a t) ≡ drop (suc a) x ∷ ps
    go (is_true p) f more = let q = at_end p in let z : [] ≡ x = cc in absurd (omega (arith, ap length z))
    go (is_false p) (first y qs k) more =
        let q = on p in
        let r = k (b ∷ []) in
        let z : b ∷ y ≡ x = cc in
        let w : qs ≡ ps = cc in
        more y qs (k []) (omega (arith, ap length z))
        ∙ (λ j. drop (suc a) (z j) ∷ w j)

module _ {t x : List ℕ} (f : Front t x) (rank : ℕ) (s : List ℕ) where
  first_headed : {r : prelude.Result Characters Refusal} → heading_in (groups x) ≡ r → (ps : List (List ℕ)) → pieces [] t ≡ x ∷ ps
      → headed ours rank (parted t) s ≡ under ours rank r (drop 2 (groups x) ∷ map (λ (p : List ℕ). groups p) ps) s
  unfolding headed
  first_headed h ps c =
      ap (λ (qs : List (List ℕ)). headed ours rank (map (λ (p : List ℕ). groups p) qs) s) c
      ∙ ap (λ (k : prelude.Result Characters Refusal). under ours rank k (drop 2 (groups x) ∷ map (λ (p : List ℕ). groups p) ps) s) h

  -- its heading is refused
  pub headed_refused : {r : Refusal} → heading_in (groups x) ≡ Err r → headed ours rank (parted t) s ≡ unchanged (number r) s
  headed_refused h = elim f [ front ps c ↦ first_headed h ps c ]

  -- it begins with a heading, and the reports stand from b.at on
  pub headed_as : {b : Start} → Began x b → headed ours rank (parted t) s ≡ under ours rank (Ok b.time) (parted (drop b.at t)) s
  headed_as {b} v =
      elim f [
        | front ps c ↦
            first_headed v.same ps c
            ∙ ap (λ (gs : List (List ℕ)). under ours rank (Ok b.time) (gs ∷ map (λ (p : List ℕ). groups p) ps) s) (sym v.rest)
            ∙ sym (ap (λ (qs : List (List ℕ)). under ours rank (Ok b.time) (map (λ (p : List ℕ). groups p) qs) s) (cut_drop b.at t x ps c v.upto))
      ]

-- ---- the call
-- "at most 16384 bytes", and not none
abbrev fits : List ℕ → Bool
fits t = leb 1 (length t) && leb (length t) 16384

module _ (s t : List ℕ) (rank : ℕ) where
  pub gave_unsound : sound s ≡ false → Gave (result s t rank) (Err why.Unsound) s
  unfolding result_in
  gave_unsound e = rw e (record { answer = refl; left = refl })

  module _ (e : sound s ≡ true) where
    pub gave_high : is_rank rank ≡ false → Gave (result s t rank) (Err why.Rank) s
    unfolding result_in
    gave_high r = rw (e, r) (record { answer = refl; left = refl })

    module _ (r : is_rank rank ≡ true) where
      pub gave_long : fits t ≡ false → Gave (result s t rank) (Err why.Unended) s
      unfolding result_in taken
      gave_long f = rw (e, r, f) (record { answer = refl; left = refl })

      gave : {x : Result} → fits t ≡ true → headed ours rank (parted t) s ≡ x → {a : prelude.Result Tally Refusal} {u : List ℕ} → Gave x a u → Gave (result s t rank) a u
      unfolding result_in taken
      gave f h g = rw (e, r, f, h) g

      pub gave_faulty : fits t ≡ true → (r : Refusal) → headed ours rank (parted t) s ≡ unchanged (number r) s → Gave (result s t rank) (Err r) s
      gave_faulty f r h = gave f h (record { answer = refl; left = refl })

      pub gave_counts : fits t ≡ true → (c : Characters) (ps : List (List (List ℕ))) (x : Tally) (u : List ℕ)
          → headed ours rank (parted t) s ≡ under ours rank (Ok c) ps s → Tallied (filings ours rank (heading c) ps (at_first s)) x.accepted x.refused u
          → Gave (result s t rank) (Ok x) u
      gave_counts f c ps x u h w = gave f h (record { answer = λ i. counts (w.accepted i) (w.refused i); left = w.left })
