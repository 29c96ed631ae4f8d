-- The reports of a text, one after the other: what is left of them, from here, gives what was asked at the start.
-- Assumes nothing.
use mathlib.Core.Path.{◌≡◌, refl, sym, ◌∙◌, ap, subst}
use mathlib.Core.Bool.{Bool, true, false, cond, not}
use mathlib.Core.List.{List, [], ◌∷◌, ◌++◌, map, append_assoc, append-nil}
use Prim.Native.Nat.{ℕ, ◌+◌, ◌-◌, ◌<◌, ◌≤◌}
use native.Mathlib.Omega.{arith}
use lib.Dec.{eqb}
use lib.ListN.{length, take, drop, length-drop}
use Rattle.std.specs.Prelude.{Result, Ok, Err, Some, None, is_ok, ◌==◌}
use Rattle.std.specs.Int.{from_bool}
use Rattle.std.specs.List.{position}
use Rattle.std.proofs.lemmas.Grind.{common_steps}
use Rattle.std.proofs.lemmas.List.{take_all}
use Rattle.laws.proofs.Bools.{Known, is_true, is_false, known, cond_true, cond_false}
use Rattle.refusals.specs.declared.Refusal.{Refusal}
use Rattle.synop_text.specs.Groups.{groups}
use Rattle.store_layout.specs.Form.{ours}
use Rattle.store_layout.specs.Sound.{sound}
use Rattle.rules.specs.Calls.{Answer, is_accepted, file}
use Rattle.rules.specs.Step.{step}
use Rattle.engine_answers.specs.Replies.{reply}
use Rattle.bulletin.specs.Rebuilt.{rebuilt}
use Rattle.bulletin.specs.Pieces.{pieces, parted, none}
use Rattle.bulletin.proofs.Cuts.{piece_here, piece_last}
use Rattle.bulletin.specs.Filed.{Filed}
use Rattle.bulletin.specs.Bulletin.{Counts, tail, counted, filing, filings, at_first, Tallied}

-- there is a piece always, the same behind whatever was read of it
pub data First (t : List ℕ) : Type 0 where
  first : (y : List ℕ) (ps : List (List ℕ)) → ((run : List ℕ) → pieces run t ≡ (run ++ y) ∷ ps) → First t

pub first_piece : (t : List ℕ) → First t
unfolding pieces
first_piece [] = first [] [] (λ run. ap (λ (r : List ℕ). r ∷ []) (sym (append-nil run)))
first_piece (b ∷ t) = go (known (eqb b 61)) (first_piece t)
  where
    go : Known (eqb b 61) → First t → First (b ∷ t)
    go (is_true e) h = first [] (pieces [] t) (λ run. cond_true _ _ _ e ∙ ap (λ (r : List ℕ). r ∷ pieces [] t) (sym (append-nil run)))
    go (is_false e) (first y ps h) =
        first (b ∷ y) ps (λ run. cond_false _ _ _ e ∙ h (run ++ b ∷ []) ∙ ap (λ (r : List ℕ). r ∷ ps) (append_assoc run (b ∷ []) y))

filings_more : (rank : ℕ) (head : List ℕ) (gs : List (List ℕ)) (ps : List (List ℕ)) (t : Counts) → {y : List ℕ} {qs : List (List ℕ)} → ps ≡ y ∷ qs
    → filings ours rank head (gs ∷ map (λ (p : List ℕ). groups p) ps) t ≡ filings ours rank head (map (λ (p : List ℕ). groups p) ps) (filing ours rank head gs t)
unfolding filings
filings_more rank head gs ps t e = rw e

abbrev pub all : ℕ → List ℕ → List ℕ → Counts → Counts
all rank head s t = filings ours rank head (parted s) t

module _ (rank : ℕ) (head s : List ℕ) (t : Counts) where
  all_more : (e : ℕ) → position (λ b. b == 61) s ≡ Some e → all rank head s t ≡ all rank head (drop (e + 1) s) (filing ours rank head (groups (take e s)) t)
  all_more e h = go (first_piece (drop (e + 1) s))
    where
      go : First (drop (e + 1) s) → all rank head s t ≡ all rank head (drop (e + 1) s) (filing ours rank head (groups (take e s)) t)
      go (first y ps q) =
          ap (λ (ps : List (List ℕ)). filings ours rank head (map (λ (p : List ℕ). groups p) ps) t) (piece_here s e h)
          ∙ filings_more rank head (groups (take e s)) (pieces [] (drop (e + 1) s)) t (q [])

  all_last : position (λ b. b == 61) s ≡ None → all rank head s t ≡ tail (groups s) t
  unfolding filings
  all_last h = ap (λ (ps : List (List ℕ)). filings ours rank head (map (λ (p : List ℕ). groups p) ps) t) (piece_last s h)

-- the loop: of the reports those before `rest` are filed
pub record Filing (rank : ℕ) (head text old rest : List ℕ) (a r : ℕ) (store : List ℕ) : Type 0 where
  pub few : a + r + length rest ≤ length text
  pub sound : sound store ≡ true
  pub same : all rank head rest (record { store = store; accepted = a; refused = r }) ≡ all rank head text (at_first old)

pub filing_none : (rank : ℕ) (head text old : List ℕ) → sound old ≡ true → Filing rank head text old text 0 0 old
filing_none rank head text old h = record { few = omega arith; sound = h; same = refl }

-- ---- what a report adds to the counts
pub one_each : (b : Bool) → from_bool b + from_bool (not b) ≡ 1
one_each true = refl
one_each false = refl

as_counted : (b : Bool) → (from_bool b ≡ cond b 1 0) × (from_bool (not b) ≡ cond b 0 1)
as_counted true = (refl, refl)
as_counted false = (refl, refl)

accepted_ok : (f : Result (Unit {0}) Refusal) → is_ok f ≡ is_accepted (reply f)
accepted_ok (Ok u) = refl
accepted_ok (Err r) = refl

-- ---- one turn of the loop
-- what the code takes from n on
pub onward : (s : List ℕ) (n : ℕ) → take (length s - n) (drop n s) ≡ drop n s
onward s n = take_all (length s - n) (drop n s) (omega (arith, length-drop n s))

pub below : (s : List ℕ) (e : ℕ) → position (λ b. b == 61) s ≡ Some e → e < length s
below s e h = grind (arith, common_steps)

pub filing_more : {rank : ℕ} {head text old rest : List ℕ} {a r : ℕ} {store : List ℕ} (f : Result (Unit {0}) Refusal) (e x y : ℕ) (new : List ℕ)
    → Filing rank head text old rest a r store → position (λ b. b == 61) rest ≡ Some e → Filed rank head (groups (take e rest)) store f new
    → x ≡ from_bool (is_ok f) → y ≡ from_bool (not (is_ok f)) → Filing rank head text old (drop (e + 1) rest) (a + x) (r + y) new
unfolding filing
filing_more {rank} {head} {text} {old} {rest} {a} {r} {store} f e x y new v h d p q =
    record {
      few = let z = v.few in let l = below rest e h in omega (arith, one_each (is_ok f), length-drop (e + 1) rest, p, q);
      sound = d.sound;
      same = ap (all rank head (drop (e + 1) rest)) counted_on ∙ sym (all_more rank head rest now e h) ∙ v.same;
    }
  where
    now : Counts
    now = record { store = store; accepted = a; refused = r }

    counted_on : record { store = new; accepted = a + x; refused = r + y } ≡ filing ours rank head (groups (take e rest)) now
    counted_on =
        (λ j. record { store = d.left j; accepted = a + (p ∙ (as_counted (is_ok f)).0) j; refused = r + (q ∙ (as_counted (is_ok f)).1) j })
        ∙ ap (λ (c : Bool). counted c (step (file (rebuilt head (groups (take e rest))) rank) store).store now)
        (accepted_ok f ∙ ap (λ (z : Answer). is_accepted z) d.answer)

-- the tail
pub filing_all : {rank : ℕ} {head text old rest : List ℕ} {a r : ℕ} {store : List ℕ} (b : Bool) (y : ℕ)
    → Filing rank head text old rest a r store → position (λ b. b == 61) rest ≡ None → b ≡ none (groups rest) → y ≡ from_bool (not b)
    → Tallied (all rank head text (at_first old)) a (r + y) store
filing_all {rank} {head} {text} {old} {rest} {a} {r} {store} b y v h p q =
    subst (λ (t : Counts). Tallied t a (r + y) store) (sym (all_last rank head rest now h) ∙ v.same)
    (go (none (groups rest)) (q ∙ (as_counted b).1 ∙ ap (λ (c : Bool). cond c 0 1) p))
  where
    now : Counts
    now = record { store = store; accepted = a; refused = r }

    go : (c : Bool) → y ≡ cond c 0 1 → Tallied (cond c now (counted false store now)) a (r + y) store
    go true z = record { accepted = refl; refused = omega arith; left = refl }
    go false z = record { accepted = omega arith; refused = omega arith; left = refl }
