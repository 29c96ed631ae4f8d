-- A loop that stores a block's cells, nine entries in turn, seen on the model: what is read of the block is `of xs` for the entries
-- xs, the first i of which are f's values, and the others still g's.
--     begun      before the first store
--     more       one more entry stored
--     whole, whole_list      after the last
-- Assumes nothing.
use mathlib.Core.Path.{◌≡◌, refl, sym, ◌∙◌, ap}
use mathlib.Core.List.{List}
use Prim.Native.Nat.{ℕ, ◌+◌, ◌<◌, ◌≤◌}
use native.Mathlib.Omega.{arith}
use lib.ListN.{length, get_or, set}
use lib.Seq.{get_or-set_other}
use Rattle.laws.specs.Table.{table}
use Rattle.laws.proofs.Tables.{is_table}
use Rattle.laws.proofs.Fill.{Done}
use Rattle.laws.proofs.Fill as fill
use Rattle.store_layout.specs.Model.{Block}
use Rattle.store_layout.specs.Layout.{block_length, decode_block}

module _ {A : Type 0} where
  pub record Filling (of : List A → Block) (f g : ℕ → A) (d : A) (b : List ℕ) (i : ℕ) : Type 0 where
    pub long : length b ≡ block_length
    pub xs : List A
    pub reads : decode_block b ≡ of xs
    pub done : Done f d 9 xs i
    pub rest : (j : ℕ) → i ≤ j → get_or xs j d ≡ g j

  pub begun : (of : List A → Block) (f : ℕ → A) (d : A) (b : List ℕ) (xs : List A) → length b ≡ block_length → length xs ≡ 9 → decode_block b ≡ of xs
      → Filling of f (λ j. get_or xs j d) d b 0
  begun of f d b xs l n e = record { long = l; xs = xs; reads = e; done = fill.none f d 9 xs n; rest = λ j m. refl }

  module _ {of : List A → Block} {f g : ℕ → A} {d : A} {b : List ℕ} {i : ℕ} (h : Filling of f g d b i) where
    pub more : (b' : List ℕ) (v : A) → i < 9 → length b' ≡ length b → v ≡ f i → decode_block b' ≡ of (set h.xs i v) → Filling of f g d b' (i + 1)
    more b' v l n e r =
        record {
          long = n ∙ h.long;
          xs = set h.xs i v;
          reads = r;
          done = fill.more v h.done l e;
          rest = λ j m. get_or-set_other h.xs i j v d (λ q. omega arith) ∙ h.rest j (omega arith);
        }

    pub whole : 9 ≤ i → decode_block b ≡ of (table 9 f)
    whole l = h.reads ∙ ap of (fill.whole h.done l)

  -- where f's values are a list's entries
  pub whole_list : {of : List A → Block} {g : ℕ → A} {d : A} {b : List ℕ} {i : ℕ} (ys : List A) → Filling of (λ k. get_or ys k d) g d b i → 9 ≤ i → length ys ≡ 9
      → decode_block b ≡ of ys
  whole_list {of} {g} {d} ys h l n = whole h l ∙ ap of (sym (is_table 9 (λ k. get_or ys k d) ys d n (λ k m. refl)))
