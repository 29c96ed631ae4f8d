-- Runs of calls: "The first call of a list gets it, each later one gets the store as the call before left it, refused or not, and nothing
-- else writes that store meanwhile. A list may be empty."
-- Assumes nothing.
use Rattle.std.specs.Prelude.{Bool, false, cond, List, [], ◌∷◌, ◌++◌, ℕ, eqb, length, take, drop}
use Rattle.store_layout.specs.Layout.{decode, entry_at, entry_length, block_at, block_length}
use Rattle.store_layout.specs.Index.{Index, nowhere, index, index_in, numbers}
use Rattle.rules.specs.Calls.{Call, Answer, Ask, unnamed, named, denied, ask}
use Rattle.rules.specs.Step.{Outcome}

-- an engine: what it answers to a call on the bytes of a store, and the bytes that it leaves. Ours is `step`
abbrev pub Engine : Type 0
Engine = Call → List ℕ → Outcome

-- a call with its answer
pub record Logged : Type 0 where
  pub call : Call
  pub answer : Answer

-- the calls of an engine's run with their answers, in order; and the store that it leaves
module _ (engine : Engine) where
  unfoldable pub log : List Call → List ℕ → List Logged
  log [] s = []
  log (c ∷ cs) s = record { call = c; answer = (engine c s).answer } ∷ log cs (engine c s).store

  unfoldable pub left : List Call → List ℕ → List ℕ
  left [] s = s
  left (c ∷ cs) s = left cs (engine c s).store

-- a call names the station x
abbrev pub asks : Ask → ℕ → Bool
asks (unnamed n) x = false
asks (named y request) x = eqb y x
asks (denied y n) x = eqb y x

abbrev pub names : ℕ → Call → Bool
names x c = asks (ask c) x

-- the calls of a list that name x; the same of a log
unfoldable pub naming : ℕ → List Call → List Call
naming x [] = []
naming x (c ∷ cs) = cond (names x c) (c ∷ naming x cs) (naming x cs)

unfoldable pub naming_log : ℕ → List Logged → List Logged
naming_log x [] = []
naming_log x (l ∷ ls) = cond (names x l.call) (l ∷ naming_log x ls) (naming_log x ls)

-- "S's records are all bytes of its station entry and of its block, wherever these lie.": none where the store has no S
abbrev pub records_at : Index → ℕ → List ℕ → List ℕ
records_at nowhere n s = []
records_at (index i) n s = take entry_length (drop (entry_at i) s) ++ take block_length (drop (block_at n i) s)

unfoldable pub records : ℕ → List ℕ → List ℕ
records x s = records_at (index_in (numbers (decode s)) x) (length (decode s).stations) s
