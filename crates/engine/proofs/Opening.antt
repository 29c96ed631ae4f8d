-- What an open answers and leaves, as an outcome.
-- Assumes nothing.
use mathlib.Core.Path.{◌≡◌, ap}
use mathlib.Core.Bool.{Bool, true, false, cond}
use mathlib.Core.List.{List}
use Prim.Native.Nat.{ℕ}
use lib.ListN.{length}
use Rattle.std.specs.Prelude.{Result, Ok, Err}
use Rattle.refusals.specs.declared.Refusal.{Refusal}
use Rattle.refusals.specs.declared.Refusal.TheVariants.{Unopenable}
use Rattle.store_layout.specs.Layout.{encode}
use Rattle.store_layout.specs.Opening.{openable, fresh}
use Rattle.store_opening.specs.Opened.{Opened}
use Rattle.engine_answers.specs.Replies.{reply, Did, open_in, open_outcome}

module _ {s : List ℕ} {year month day : ℕ} {numbers rows : List ℕ} {r : Result (Unit {0}) Refusal} {t : List ℕ} where
  pub opened : Opened s year month day numbers rows r t → Did (open_outcome s year month day numbers rows) (reply r) t
  unfolding open_in
  opened o = go (openable (length s) year month day numbers rows) o.answer o.left
    where
      go : (b : Bool) → r ≡ cond b (Ok tt) (Err Unopenable) → t ≡ cond b (encode (fresh year month day numbers rows)) s
          → Did (cond b (record { answer = Rattle.rules.specs.Calls.accepted; store = encode (fresh year month day numbers rows) })
          (record { answer = Rattle.rules.specs.Calls.refused 10; store = s })) (reply r) t
      go true p q = record { answer = ap reply p; left = q }
      go false p q = record { answer = ap reply p; left = q }
