-- A read's answer as the system gives it: a count, or a number below zero.
-- Assumes nothing.
use mathlib.Core.Path.{refl}
use mathlib.Core.List.{List}
use Prim.Native.Nat.{ℕ}
use native.Mathlib.Omega.{arith}
use borrow.Author.Tests.{le-ltb}
use lib.IntN.{pos, negsuc}
use Rattle.std.specs.Prelude.{Result, Ok, Err, IfOk}
use Rattle.io.specs.Counts.{IsPrefixLen}
use Rattle.dayline_text.specs.Input.{Reads}

pub reads : {E : Type 0} (piece : List ℕ) (r : Result ℕ E) → IfOk r (λ n. IsPrefixLen n piece) → Reads piece r
reads piece (Ok n) h = record { answer = pos n; gave = (omega (arith, h.0), h.0, le-ltb n 0 (omega arith)) }
reads piece (Err e) h = record { answer = negsuc 0; gave = refl }
