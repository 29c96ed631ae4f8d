-- Parts of a list: `take n (drop a s)`, the n entries from a on.
--     part_left, part_right      a part of two lists joined, in the first or in the second
--     part_join, joined          two parts that lie side by side are one
--     get_d_part, part_table      the entries of a part
--     Same                       two stretches with the same entries
-- Assumes nothing.
use mathlib.Core.Path.{◌≡◌, sym, ◌∙◌, ap, ap₂}
use mathlib.Core.List.{List, ◌++◌}
use Prim.Native.Nat.{ℕ, ◌+◌, ◌<◌, ◌≤◌}
use native.Mathlib.Nat.{zero-add}
use native.Mathlib.Omega.{arith}
use lib.ListN.{length, get_or, take, drop, length-take, length-drop}
use lib.Seq.{take-add, drop-drop, get_or-take, get_or-drop, take-append-le, drop-append-le, drop-append-add, ext_get_or}
use Rattle.laws.specs.Table.{table}
use Rattle.laws.proofs.Tables.{is_table}
use Rattle.store_layout.specs.Layout.{byte}

-- ---- a part of two lists joined: in the first, or in the second
pub part_left : (n a : ℕ) (xs ys : List ℕ) → a + n ≤ length xs → take n (drop a (xs ++ ys)) ≡ take n (drop a xs)
part_left n a xs ys h =
    ap (take n) (drop-append-le a xs ys (omega arith)) ∙ take-append-le n (drop a xs) ys (simp length-drop (omega arith))

pub part_right : (n a m : ℕ) (xs ys : List ℕ) → length xs ≡ m → take n (drop (m + a) (xs ++ ys)) ≡ take n (drop a ys)
part_right n a m xs ys e = rw (← e) (ap (take n) (drop-append-add xs ys a))

-- two parts that lie side by side are one
pub part_join : (n m a : ℕ) (s : List ℕ) → take n (drop a s) ++ take m (drop (a + n) s) ≡ take (n + m) (drop a s)
part_join n m a s = ap (λ (t : List ℕ). take n (drop a s) ++ take m t) (sym (drop-drop n a s)) ∙ sym (take-add n m (drop a s))

-- an entry of a part
pub get_d_part : (n a j : ℕ) (s : List ℕ) → j < n → get_or (take n (drop a s)) j 0 ≡ get_or s (a + j) 0
get_d_part n a j s h = get_or-take n (drop a s) j 0 h ∙ get_or-drop a s j 0

pub length_part : (n a : ℕ) (s : List ℕ) → a + n ≤ length s → length (take n (drop a s)) ≡ n
length_part n a s h = simp (length-take, length-drop) (omega arith)

pub part_table : (n a : ℕ) (s : List ℕ) → a + n ≤ length s → take n (drop a s) ≡ table n (λ k. byte s (a + k))
part_table n a s h = is_table n (λ k. byte s (a + k)) (take n (drop a s)) 0 (length_part n a s h) (λ k l. get_d_part n a k s l)

-- two lists joined are a part of s where each is and they lie side by side
pub joined : {x y : List ℕ} (n m a : ℕ) (s : List ℕ) → x ≡ take n (drop a s) → y ≡ take m (drop (a + n) s) → x ++ y ≡ take (n + m) (drop a s)
joined n m a s p q = ap₂ (λ (u v : List ℕ). u ++ v) p q ∙ part_join n m a s

-- ---- the n entries of s from i on are those of t from j on
pub record Same (n : ℕ) (s : List ℕ) (i : ℕ) (t : List ℕ) (j : ℕ) : Type 0 where
  pub each : (k : ℕ) → k < n → byte s (i + k) ≡ byte t (j + k)

-- a part stands for where it was taken from
pub same_part : (n m a j : ℕ) (s : List ℕ) → j + n ≤ m → Same n (take m (drop a s)) j s (a + j)
same_part n m a j s h =
    record { each = λ k l. get_d_part m a (j + k) s (omega arith) ∙ ap (byte s) (index k) }
  where
    index : (k : ℕ) → a + (j + k) ≡ a + j + k
    index k = omega arith

-- the same stretches are equal parts
pub part_same : {n i j : ℕ} {s t : List ℕ} → Same n s i t j → i + n ≤ length s → j + n ≤ length t → take n (drop i s) ≡ take n (drop j t)
part_same {n} {i} {j} {s} {t} h p q =
    ext_get_or 0 (take n (drop i s)) (take n (drop j t)) (length_part n i s p ∙ sym (length_part n j t q))
    (λ k l. let l' : k < n = rw (length_part n i s p) at l in get_d_part n i k s l' ∙ h.each k l' ∙ sym (get_d_part n j k t l'))

-- a part is the same stretch as the list that it is
pub same_is : {n i : ℕ} {s t : List ℕ} → take n (drop i s) ≡ t → Same n s i t 0
same_is {n} {i} {s} {t} e =
    record { each = λ k l. sym (get_d_part n i k s l) ∙ ap (λ (u : List ℕ). byte u k) e ∙ ap (byte t) (sym (zero-add k)) }

-- its first entries, and a stretch within it
pub same_first : {m i j : ℕ} {s t : List ℕ} (n : ℕ) → Same m s i t j → n ≤ m → Same n s i t j
same_first n h l = record { each = λ k b. h.each k (omega arith) }

pub same_within : {m i j : ℕ} {s t : List ℕ} (n k : ℕ) → Same m s i t j → k + n ≤ m → Same n s (i + k) t (j + k)
same_within {m} {i} {j} {s} {t} n k h l =
    record { each = λ e b. ap (byte s) (index i e) ∙ h.each (k + e) (omega arith) ∙ sym (ap (byte t) (index j e)) }
  where
    index : (p e : ℕ) → p + k + e ≡ p + (k + e)
    index p e = omega arith
