-- What a call does to a valid store, on the model: nothing, or it puts a station in the place of one whose number it names. So a valid
-- store stays valid.
--     reacts            what it does
--     valid_left        what it leaves is valid
-- Assumes nothing.
use mathlib.Core.Path.{◌≡◌, refl, sym}
use mathlib.Core.Bool.{true}
use Prim.Native.Nat.{ℕ}
use borrow.Author.Tests.{eq-eqb}
use Rattle.store_layout.specs.Model.{Station, Store, station_at}
use Rattle.store_layout.specs.Valid.{ValidStore}
use Rattle.store_layout.specs.Index.{Index, nowhere, index, index_in, numbers}
use Rattle.store_layout.specs.Updates.{with_station}
use Rattle.store_layout.proofs.Indices.{Found, found}
use Rattle.rules.specs.Calls.{Call, Answer, accepted, Request, Ask, unnamed, named, denied, ask}
use Rattle.rules.specs.Rules.{Effect, keeps, makes, rule}
use Rattle.rules.specs.Reaction.{Reaction, stays, becomes, date_of, placed, on_station, at, reaction}
use Rattle.rules.specs.Runs.{names}
use Rattle.rules.proofs.Kept.{Kept, valid_kept, AllLawful}

-- what a reaction answers, and the store that it leaves
abbrev pub answered : Reaction → Answer
answered (stays a) = a
answered (becomes m) = accepted

abbrev pub left_of : Reaction → Store → Store
left_of (stays a) m = m
left_of (becomes n) m = n

pub data Reacts (c : Call) (m : Store) : Reaction → Type 0 where
  same : (a : Answer) → Reacts c m (stays a)
  replaced : (j : ℕ) (u : Station) → names (station_at m.stations j).number c ≡ true → Kept (station_at m.stations j) u
      → Reacts c m (becomes (with_station j u m))

module _ (lawful : AllLawful) (c : Call) (m : Store) (v : ValidStore m) where
  module _ (y : ℕ) (request : Request) (e : ask c ≡ named y request) where
    reacts_placed : (j : ℕ) → Found m y j → (r : Effect) → rule (date_of m) request (station_at m.stations j) ≡ r → Reacts c m (placed r j m)
    reacts_placed j f (keeps a) q = same a
    reacts_placed j f (makes u) q =
        replaced j u (rw e (eq-eqb y (station_at m.stations j).number (sym f.named)))
        (lawful.asked c y request e (date_of m) (station_at m.stations j) u (v.each j f.inside) q)

    reacts_at : (p : Index) → index_in (numbers m) y ≡ p → Reacts c m (at p (on_station request m))
    reacts_at nowhere q = same _
    reacts_at (index j) q = reacts_placed j (found m y j q) (rule (date_of m) request (station_at m.stations j)) refl

  pub reacts : Reacts c m (reaction (ask c) m)
  reacts = go (ask c) refl
    where
      go : (q : Ask) → ask c ≡ q → Reacts c m (reaction q m)
      go (unnamed n) e = same _
      go (named y request) e = reacts_at y request e (index_in (numbers m) y) refl
      go (denied y n) e = same _

  pub valid_left : ValidStore (left_of (reaction (ask c) m) m)
  valid_left = go (reaction (ask c) m) reacts
    where
      go : (r : Reaction) → Reacts c m r → ValidStore (left_of r m)
      go _ (same a) = v
      go _ (replaced j u n k) = valid_kept j u m v k
