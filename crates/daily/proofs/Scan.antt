-- A scan for the warmest or the coldest slot: the best so far is replaced only by one that is ahead of it, so it is the earliest, or the
-- latest, of the utmost.
--     first     before the first turn
--     more      one more slot
--     folded    after the turns of a `fold` over the slots 1 to 7
--     ended     after the last: the best slot is the rule's where it has a temperature, and the rule has none where it has not
-- Assumes nothing.
use mathlib.Core.Path.{◌≡◌, refl, sym, ◌∙◌, ap, subst}
use mathlib.Core.Logic.{⊎_elim}
use mathlib.Core.Bool.{Bool, true, false, not, cond, ◌&&◌, ◌||◌, true≢false, false≢true}
use mathlib.Core.List.{List}
use Rattle.std.specs.Prelude.{Option, None, Some}
use Rattle.std.specs.Fn.{Called, Mut}
use Rattle.std.specs.Iterator.{FoldsItems}
use Rattle.std.specs.List.{fold, range_with_len}
use Rattle.std.proofs.lemmas.Iterator.{YieldsList}
use Rattle.std.proofs.lemmas.Iterator.Consumers.{fold_from_yields_List}
use Prim.Native.Nat.{ℕ, zero, suc, ◌+◌, ◌<◌}
use native.Mathlib.Nat.{eq-or-lt_of_le, not-suc-le-zero, add-zero}
use native.Mathlib.Omega.{arith}
use borrow.Author.Count.{below_more}
use borrow.Author.Tests.{ltb-true, le-ltb}
use lib.Dec.{T}
use lib.IntN.{ℤ, pos, negsuc}
use lib.Signed.{lt_z, ◌<ℤ◌, ◌≤ℤ◌, lt_z_yes, lt_z_no, <ℤ-≤ℤ_trans, clash_ℤ}
use Rattle.laws.proofs.Bools.{Known, is_true, is_false, known, and_true, and_left, and_right, and_false_left, or_true_right}
use Rattle.laws.proofs.Offset.{side}
use Rattle.laws.proofs.Tables.{all_at, all_from}
use Rattle.quality.specs.Cell.{Cell, missing, slot}
use Rattle.daily.specs.declared.extremes.Tie.{Tie}
use Rattle.daily.specs.declared.extremes.Tie.TheVariants.{Earliest, Latest}
use Rattle.daily.specs.Extremes.{on_ties, utmost}
use Rattle.daily.specs.Parts.{beyond, outdoes, ahead}
use Rattle.daily.proofs.Ties.{Alone, on_ties_none, on_ties_some}

-- ---- the order of values
below : {x y : ℤ} → lt_z x y ≡ true → x <ℤ y
below e = lt_z_yes (subst T (sym e) tt)

above : {x y : ℤ} → lt_z x y ≡ false → y ≤ℤ x
above e = lt_z_no (subst (λ (b : Bool). T (not b)) (sym e) tt)

lt_asym : (x y : ℤ) → lt_z x y ≡ true → lt_z y x ≡ false
lt_asym (pos a) (pos b) h = le-ltb b a (omega (arith, ltb-true a b h))
lt_asym (pos a) (negsuc b) h = absurd (false≢true h)
lt_asym (negsuc a) (pos b) h = refl
lt_asym (negsuc a) (negsuc b) h = le-ltb a b (omega (arith, ltb-true b a h))

beyond_asym : (w : Bool) (x y : ℤ) → beyond w x y ≡ true → beyond w y x ≡ false
beyond_asym true x y h = lt_asym y x h
beyond_asym false x y h = lt_asym x y h

beyond_self : (w : Bool) (x : ℤ) → beyond w x x ≡ false
beyond_self w x = elim (known (beyond w x x)) [ is_true e ↦ beyond_asym w x x e | is_false e ↦ e ]

-- x < y, y ≤ z, z ≤ x
never : (x y z : ℤ) → lt_z x y ≡ true → lt_z z y ≡ false → lt_z x z ≡ false → ⊥
never x y z h g e = clash_ℤ {a = x} {b = z} (<ℤ-≤ℤ_trans {a = x} {b = y} {c = z} (below h) (above g)) (above e)

-- x is beyond y, and z is not: so x is beyond z
beyond_past : (w : Bool) (x y z : ℤ) → beyond w x y ≡ true → beyond w z y ≡ false → beyond w x z ≡ true
beyond_past true x y z h g = elim (known (lt_z z x)) [ is_true e ↦ e | is_false e ↦ absurd (never y x z h e g) ]
beyond_past false x y z h g = elim (known (lt_z x z)) [ is_true e ↦ e | is_false e ↦ absurd (never x y z h g e) ]

-- ---- what outdoes what
not_false : (b : Bool) → not b ≡ true → b ≡ false
not_false true e = absurd (false≢true e)
not_false false e = refl

not_true : (b : Bool) → not b ≡ false → b ≡ true
not_true true e = refl
not_true false e = absurd (true≢false e)

-- a test that cannot hold
never_holds : (b : Bool) → (b ≡ true → ⊥) → not b ≡ true
never_holds true f = absurd (f refl)
never_holds false f = refl

-- z does not outdo y, which x outdoes: so x outdoes z
outdoes_past : (t : Tie) (w : Bool) (x y z : ℤ) → outdoes t w x y ≡ true → outdoes t w z y ≡ false → outdoes t w x z ≡ true
outdoes_past Earliest w x y z h g = beyond_past w x y z h g
outdoes_past Latest w x y z h g =
    never_holds (beyond w z x) (λ e. true≢false (sym (beyond_past w z x y e (not_false _ h)) ∙ beyond_asym w y z (not_true _ g)))

outdoes_trans : (t : Tie) (w : Bool) (x y z : ℤ) → outdoes t w x y ≡ true → outdoes t w y z ≡ true → outdoes t w x z ≡ true
outdoes_trans Earliest w x y z h g = beyond_past w x y z h (beyond_asym w y z g)
outdoes_trans Latest w x y z h g = never_holds (beyond w z x) (λ e. true≢false (sym (beyond_past w z x y e (not_false _ h)) ∙ not_false _ g))

-- what is outdone is not beyond, nor is what does not outdo
outdone : (t : Tie) (w : Bool) (x y : ℤ) → outdoes t w x y ≡ true → beyond w y x ≡ false
outdone Earliest w x y h = beyond_asym w x y h
outdone Latest w x y h = not_false _ h

stands : (t : Tie) (w : Bool) (x y : ℤ) → outdoes t w x y ≡ false → beyond w x y ≡ false
stands Earliest w x y h = h
stands Latest w x y h = beyond_asym w y x (not_true _ h)

-- ---- the same of cells, m, n, o saying which are missing
lead_past : (m n o b c d : Bool) → (b ≡ true → c ≡ false → d ≡ true) → (not m && (n || b)) ≡ true → (not o && (n || c)) ≡ false → (not m && (o || d)) ≡ true
lead_past true n o b c d f h g = absurd (false≢true h)
lead_past false n true b c d f h g = refl
lead_past false true false b c d f h g = absurd (true≢false g)
lead_past false false false b c d f h g = f h g

lead_trans : (m n o b c d : Bool) → (b ≡ true → c ≡ true → d ≡ true) → (not m && (n || b)) ≡ true → (not n && (o || c)) ≡ true → (not m && (o || d)) ≡ true
lead_trans true n o b c d f h g = absurd (false≢true h)
lead_trans false true o b c d f h g = absurd (false≢true g)
lead_trans false false true b c d f h g = refl
lead_trans false false false b c d f h g = f h g

module _ (t : Tie) (w : Bool) where
  ahead_past : (x y z : Cell) → ahead t w x y ≡ true → ahead t w z y ≡ false → ahead t w x z ≡ true
  ahead_past x y z = lead_past (missing x) (missing y) (missing z) _ _ _ (outdoes_past t w x.value y.value z.value)

  ahead_trans : (x y z : Cell) → ahead t w x y ≡ true → ahead t w y z ≡ true → ahead t w x z ≡ true
  ahead_trans x y z = lead_trans (missing x) (missing y) (missing z) _ _ _ (outdoes_trans t w x.value y.value z.value)

-- ---- the scan
-- before j, at j, or after it
parted : {A : Type 0} (i j : ℕ) → (i < j → A) → (i ≡ j → A) → (j < i → A) → A
parted i j f g h = ⊎_elim f (λ l. ⊎_elim (λ e. g (sym e)) h (eq-or-lt_of_le l)) (side i j)

-- j is the best of the first n slots: it is ahead of all before it, and none after is ahead of it
pub record Leads (t : Tie) (w : Bool) (ts : List Cell) (j n : ℕ) : Type 0 where
  pub within : j < n
  pub sooner : (i : ℕ) → i < j → ahead t w (slot ts j) (slot ts i) ≡ true
  pub later : (i : ℕ) → i < n → j < i → ahead t w (slot ts i) (slot ts j) ≡ false

module _ (t : Tie) (w : Bool) (ts : List Cell) where
  pub first : Leads t w ts 0 1
  first = record { within = omega arith; sooner = λ i l. absurd (not-suc-le-zero l); later = λ i l m. absurd (omega arith) }

  pub more : {j n : ℕ} → Leads t w ts j n → Leads t w ts (cond (ahead t w (slot ts n) (slot ts j)) n j) (n + 1)
  more {j} {n} h = go (known (ahead t w (slot ts n) (slot ts j)))
    where
      go : Known (ahead t w (slot ts n) (slot ts j)) → Leads t w ts (cond (ahead t w (slot ts n) (slot ts j)) n j) (n + 1)
      go (is_true e) = rw e (record { within = omega arith; sooner = past; later = λ i l m. absurd (omega arith) })
        where
          past : (i : ℕ) → i < n → ahead t w (slot ts n) (slot ts i) ≡ true
          past i l =
              parted i j (λ m. ahead_trans t w (slot ts n) (slot ts j) (slot ts i) e (h.sooner i m)) (λ q. rw q e)
              (λ m. ahead_past t w (slot ts n) (slot ts j) (slot ts i) e (h.later i l m))
      go (is_false e) =
          let m : j < n = h.within in
          rw e (record { within = omega arith; sooner = h.sooner; later = below_more _ _ h.later (λ q. e) })

  -- one turn of the scan: the best so far, and the next slot
  abbrev pub turn : ℕ → ℕ → ℕ
  turn j k = cond (ahead t w (slot ts k) (slot ts j)) k j

  turns : (n lo j : ℕ) → Leads t w ts j lo → Leads t w ts (fold turn j (range_with_len lo n)) (lo + n)
  turns zero lo j h = rw add-zero h
  turns (suc n) lo j h = let e : lo + 1 + n ≡ lo + suc n = omega arith in subst (Leads t w ts _) e (turns n (lo + 1) (turn j lo) (more h))

  pub folded : {S F : Type 0} {steps : S → Option ℕ → S → Type 0} {s : S} (g : Mut F (ℕ × (ℕ × Unit {0})) ℕ) {f : F} (r : ℕ) → FoldsItems steps g s f 0 r
      → YieldsList steps (λ x. x) s (range_with_len 1 7) → ((j k i : ℕ) (q : F) → Called g f (j, (k, tt)) i q → (q ≡ f) × (i ≡ turn j k)) → Leads t w ts r 8
  folded g r ran e calls = subst (λ (i : ℕ). Leads t w ts i 8) (sym (fold_from_yields_List g turn 0 r ran e calls)) (turns 7 1 0 first)

-- ---- after all eight slots, j the best. m says whether i is missing, n whether j is; `x is ahead of y` is `not (missing x) && (missing y || outdoes)`
-- i comes before j, which outdoes it where b: it is not beyond j (c)
under : (m n b c : Bool) → (b ≡ true → c ≡ false) → (not n && (m || b)) ≡ true → (m || not c) ≡ true
under true n b c f g = refl
under false true b c f g = absurd (false≢true g)
under false false b c f g = ap not (f g)

-- i comes after j, and outdoes it where b: it is not beyond j (c)
behind : (m n b c : Bool) → n ≡ false → (b ≡ false → c ≡ false) → (not m && (n || b)) ≡ false → (m || not c) ≡ true
behind true n b c e f g = refl
behind false true b c e f g = absurd (true≢false e)
behind false false b c e f g = ap not (f g)

-- i comes after j, and would outdo it if j were not beyond i (b)
turned : (m n b : Bool) → n ≡ false → (not m && (n || not b)) ≡ false → (m || b) ≡ true
turned true n b e g = refl
turned false true b e g = absurd (true≢false e)
turned false false b e g = not_true b g

-- i is missing or j beyond it (b): so i is not utmost, a saying that none is beyond it
passed : (m n b a : Bool) → n ≡ false → (a ≡ true → (n || not b) ≡ true) → (m || b) ≡ true → (not m && a) ≡ false
passed true n b a e f g = refl
passed false true b a e f g = absurd (true≢false e)
passed false false true true e f g = absurd (false≢true (f refl))
passed false false true false e f g = refl
passed false false false a e f g = absurd (false≢true g)

-- none is there, since j is missing
gone : (m n b : Bool) → n ≡ true → (not m && (n || b)) ≡ false → m ≡ true
gone true n b e g = refl
gone false true b e g = absurd (true≢false g)
gone false false b e g = absurd (false≢true e)

beaten : (w : Bool) (ts : List Cell) (i j : ℕ) → j < 8 → missing (slot ts j) ≡ false
    → (missing (slot ts i) || beyond w (slot ts j).value (slot ts i).value) ≡ true → utmost (beyond w) ts i ≡ false
beaten w ts i j l e g =
    passed (missing (slot ts i)) (missing (slot ts j)) (beyond w (slot ts j).value (slot ts i).value) _ e
    (λ a. all_at (λ k. missing (slot ts k) || not (beyond w (slot ts k).value (slot ts i).value)) 8 a j l) g

alone : (t : Tie) (w : Bool) (ts : List Cell) (j : ℕ) → Leads t w ts j 8 → missing (slot ts j) ≡ false → Alone t (utmost (beyond w) ts) 8 j
alone Earliest w ts j h e = λ i l. beaten w ts i j h.within e (and_right (not (missing (slot ts j))) _ (h.sooner i l))
alone Latest w ts j h e = λ i l k. beaten w ts i j h.within e (turned (missing (slot ts i)) (missing (slot ts j)) _ e (h.later i k l))

module _ (t : Tie) (w : Bool) (ts : List Cell) (j : ℕ) (h : Leads t w ts j 8) where
  found : missing (slot ts j) ≡ false → on_ties t (utmost (beyond w) ts) 8 ≡ Some j
  found e =
      on_ties_some t (utmost (beyond w) ts) 8 j h.within
      (and_true (not (missing (slot ts j))) _ (ap not e)
      (all_from (λ i. missing (slot ts i) || not (beyond w (slot ts i).value (slot ts j).value)) 8
      (λ i l.
      parted i j
      (λ m. under (missing (slot ts i)) (missing (slot ts j)) _ _ (outdone t w (slot ts j).value (slot ts i).value) (h.sooner i m))
      (λ q. rw q (or_true_right (missing (slot ts j)) _ (ap not (beyond_self w (slot ts j).value))))
      (λ m. behind (missing (slot ts i)) (missing (slot ts j)) _ _ e (stands t w (slot ts i).value (slot ts j).value) (h.later i l m)))))
      (alone t w ts j h e)

  nothing : missing (slot ts j) ≡ true → on_ties t (utmost (beyond w) ts) 8 ≡ None
  nothing e =
      on_ties_none t (utmost (beyond w) ts) 8
      (λ i l.
      and_false_left (not (missing (slot ts i))) _
      (ap not
      (parted i j (λ m. absurd (true≢false (sym (and_left (not (missing (slot ts j))) _ (h.sooner i m)) ∙ ap not e))) (λ q. rw q e)
      (λ m. gone (missing (slot ts i)) (missing (slot ts j)) _ e (h.later i l m)))))

  -- the answer, b saying whether j is missing
  pub ended : (b : Bool) → missing (slot ts j) ≡ b → cond b None (Some j) ≡ on_ties t (utmost (beyond w) ts) 8
  ended true e = sym (nothing e)
  ended false e = sym (found e)
