-- A loop over the stations' numbers and rows side by side, each pair with its index.
--     listed_turn      the index, the number and the row of a turn
--     listed_long      how many turns there are
-- Assumes nothing.
use mathlib.Core.Path.{◌≡◌, ◌∙◌, ap₂}
use mathlib.Core.List.{List}
use Prim.Native.Nat.{ℕ, ◌+◌, ◌<◌}
use native.Mathlib.Omega.{arith}
use lib.ListN.{length, get_or}
use Rattle.std.specs.List.{zip, enumerate_from}
use Rattle.std.proofs.lemmas.List.{get_or_default}
use Rattle.std.proofs.lemmas.List.FromFn.{length-enumerate_from, get_or-enumerate_from}
use Rattle.std.proofs.lemmas.Slice.Zip.{length-zip, get_or-zip}

module _ (ks vs : List ℕ) (even : length vs ≡ length ks) where
  pub listed_long : length (enumerate_from 0 (zip ks vs)) ≡ length ks
  listed_long = length-enumerate_from 0 (zip ks vs) ∙ length-zip ks vs ∙ omega arith

  pub listed_turn : (n : ℕ) (p : ℕ × (ℕ × ℕ)) → n < length (enumerate_from 0 (zip ks vs)) → p ≡ get_or (enumerate_from 0 (zip ks vs)) n p
      → (n < length ks) × (p ≡ (n, (get_or ks n 0, get_or vs n 0)))
  listed_turn n p l e =
      let k : n < length ks = omega (arith, l, listed_long) in
      let v : n < length vs = omega (arith, k, even) in
      let z : n < length (zip ks vs) = omega (arith, k, even, length-zip ks vs) in
      let i : 0 + n ≡ n = omega arith in (
        k,
        e
            ∙ get_or-enumerate_from 0 (zip ks vs) n p z
            ∙ ap₂ (λ (a : ℕ) (b : ℕ × ℕ). (a, b)) i (get_or-zip ks vs n p.1 k v ∙ ap₂ (λ (a b : ℕ). (a, b)) (get_or_default ks n _ 0 k) (get_or_default vs n _ 0 v)),
      )
