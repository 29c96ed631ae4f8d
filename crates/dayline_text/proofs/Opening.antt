-- What a whole line's numbers open: the date, and the pairs one after the other.
-- Assumes nothing.
use mathlib.Core.Path.{◌≡◌, refl, sym, ◌∙◌, ap, ap₂, subst}
use mathlib.Core.Bool.{Bool, true, false, ◌&&◌}
use mathlib.Core.List.{List, [], ◌∷◌, ◌++◌, append-nil}
use Prim.Native.Nat.{ℕ, zero, suc, ◌+◌, ◌-◌, ◌*◌, ◌/◌, ◌%◌, ◌<◌, ◌≤◌, min}
use native.Mathlib.Nat.{le_of_suc-le-suc, not-suc-le-zero}
use native.Mathlib.Numerals.{add-one}
use native.Mathlib.Omega.{arith}
use borrow.Author.Tests.{leb-true}
use lib.Dec.{leb, eqb}
use lib.ListN.{length, take, drop, get_or, length-drop}
use lib.Seq.{get_or-take, take_all}
use Rattle.std.proofs.lemmas.List.{get_or-drop}
use Rattle.std.specs.Prelude.{Option, None, IfSome}
use Rattle.std.specs.Simd.{first_chunks}
use Rattle.laws.specs.Table.{table}
use Rattle.laws.proofs.Bools.{and_left, and_right}
use Rattle.laws.proofs.Tables.{length_table}
use Rattle.dayline_text.specs.declared.first_line.Line.{Line}
use Rattle.dayline_text.specs.declared.first_line.Opening.{Opening}
use Rattle.dayline_text.specs.FirstLine.{cannot_open, opens, first, is_whole, pairs, station, row, is_plain, numbers_from}
use Rattle.dayline_text.specs.Line.{goes, Ended, told, Opens}

-- ---- the pairs, cut out of a list
pub chunk_at : (m : ℕ) (xs : List ℕ) (k i : ℕ) → k < m → i < 2 → get_or (get_or (first_chunks 2 m xs) k []) i 0 ≡ get_or xs (2 * k + i) 0
chunk_at zero xs k i h b = absurd (not-suc-le-zero h)
chunk_at (suc m) xs zero i h b = get_or-take 2 xs i 0 b ∙ ap (λ (j : ℕ). get_or xs j 0) (omega arith)
chunk_at (suc m) xs (suc k) i h b =
    chunk_at m (drop 2 xs) k i (le_of_suc-le-suc h) b ∙ get_or-drop 2 xs (2 * k + i) 0
    ∙ ap (λ (j : ℕ). get_or xs j 0) (omega arith)

-- ---- the first entries of a table
last : (n : ℕ) (f : ℕ → ℕ) → table (suc n) f ≡ table n f ++ f n ∷ []
unfolding table
last zero f = refl
last (suc n) f = ap (λ (xs : List ℕ). f zero ∷ xs) (last n (λ k. f (suc k)))

table_more : (n : ℕ) (f : ℕ → ℕ) → table (n + 1) f ≡ table n f ++ f n ∷ []
table_more n f = ap (λ (k : ℕ). table k f) (add-one n) ∙ last n f

-- ---- the first i pairs of the numbers ns are told apart
pub record Pairing (ns ss rs : List ℕ) (i : ℕ) : Type 0 where
  pub stations : ss ≡ table i (station ns)
  pub rows : rs ≡ table i (row ns)

pub pairing_none : (ns : List ℕ) → Pairing ns [] [] 0
unfolding table
pairing_none ns = record { stations = refl; rows = refl }

-- the numbers behind the date, as they are lent, and the pairs ps cut out of them
abbrev pub behind : List ℕ → List ℕ
behind ns = take (length ns - 3) (drop 3 ns)

behind_all : (ns : List ℕ) → behind ns ≡ drop 3 ns
behind_all ns = take_all (length ns - 3) (drop 3 ns) (omega (arith, length-drop 3 ns))

module _ (ns : List ℕ) {ps : List (List ℕ)} (front : ps ≡ first_chunks 2 (length (behind ns) / 2) (behind ns)) (long : length ps ≡ length (behind ns) / 2) where
  -- the i-th pair's parts
  at : (i j : ℕ) → i < length ps → j < 2 → get_or (get_or ps i []) j 0 ≡ get_or ns (2 * i + (3 + j)) 0
  at i j h b =
      ap (λ (qs : List (List ℕ)). get_or (get_or qs i []) j 0) front
      ∙ chunk_at (length (behind ns) / 2) (behind ns) i j (subst (λ (m : ℕ). i < m) long h) b
      ∙ ap (λ (xs : List ℕ). get_or xs (2 * i + j) 0) (behind_all ns)
      ∙ get_or-drop 3 ns (2 * i + j) 0
      ∙ ap (λ (k : ℕ). get_or ns k 0) (omega arith)

  -- one pair more
  pub pairing_more : {ss rs ss' rs' : List ℕ} {i r : ℕ} → Pairing ns ss rs i → i < length ps → ss' ≡ ss ++ get_or (get_or ps i []) 0 0 ∷ []
      → rs' ≡ rs ++ r ∷ [] → r ≡ min (get_or (get_or ps i []) 1 0) 65535 → Pairing ns ss' rs' (i + 1)
  pairing_more {i = i} v h e f g =
      record {
        stations = e ∙ ap₂ (λ (xs : List ℕ) (x : ℕ). xs ++ x ∷ []) v.stations (at i 0 h (omega arith)) ∙ sym (table_more i (station ns));
        rows =
            f ∙ ap₂ (λ (xs : List ℕ) (x : ℕ). xs ++ x ∷ []) v.rows (g ∙ ap (λ (x : ℕ). min x 65535) (at i 1 h (omega arith)))
            ∙ sym (table_more i (row ns));
      }

-- so many are told apart as there are
pub pairing_long : {ns ss rs : List ℕ} {i : ℕ} → Pairing ns ss rs i → (length ss ≡ i) × (length rs ≡ i)
pairing_long {ns} {i = i} v = (ap length v.stations ∙ length_table i (station ns), ap length v.rows ∙ length_table i (row ns))

pub first_no : (ns : List ℕ) → is_whole (length ns) ≡ false → cannot_open ≡ first true ns
unfolding first
first_no ns e = rw e refl

pub first_yes : {ns ss rs : List ℕ} {i : ℕ} → is_whole (length ns) ≡ true → Pairing ns ss rs i → i ≡ pairs (length ns)
    → opens (get_or ns 0 0) (get_or ns 1 0) (get_or ns 2 0) ss rs ≡ first true ns
unfolding first
first_yes e v q = rw (e, v.stations, v.rows, q) refl

-- a whole line's pairs
pub pairs_count : (ns : List ℕ) {m : ℕ} → is_whole (length ns) ≡ true → m ≡ length (behind ns) / 2 → (m ≡ pairs (length ns)) × (m ≤ 32)
pairs_count ns {m} e q =
    let many : length ns ≤ 67 = leb-true (length ns) 67 (and_right (leb 5 (length ns)) (leb (length ns) 67) (and_left (leb 5 (length ns) && leb (length ns) 67) (eqb (length ns % 2) 1) e)) in
    let long : length (behind ns) ≡ length ns - 3 = ap length (behind_all ns) ∙ length-drop 3 ns in
    (q ∙ ap (λ (k : ℕ). k / 2) long, omega (arith, q, long))

-- ---- w is the line l with its last number whole
module _ (l w : Line) (v : Ended l w) where
  whole : (good : Bool) → w.good ≡ good → first good w.numbers.items ≡ goes l []
  unfolding goes is_plain numbers_from
  whole good e = ap₂ first (sym (kept w.good ∙ e)) (sym (append-nil w.numbers.items)) ∙ v.same true []
    where
      kept : (b : Bool) → (b && true) ≡ b
      kept true = refl
      kept false = refl

  pub opens_none : w.good ≡ false → Opens l None
  unfolding first
  opens_none e = record { says = whole false e; few = tt }

  pub opens_all : (o : Option Opening) → w.good ≡ true → told o ≡ first true w.numbers.items → IfSome o (λ p. length p.stations.items ≤ 32) → Opens l o
  opens_all o e h f = record { says = h ∙ whole true e; few = f }
