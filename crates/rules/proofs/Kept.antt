-- What the proof of demand 3 asks of the rules: a station that a request makes has the same number and is valid again. Without it one
-- station's call could make the store unsound, and every later answer would be 9.
-- Assumes nothing.
use mathlib.Core.Path.{◌≡◌, refl, ◌∙◌}
use Prim.Native.Nat.{ℕ, ◌≤◌}
use native.Mathlib.Omega.{arith}
use Rattle.store_layout.specs.Model.{Block, Station, Store, station_at}
use Rattle.store_layout.specs.Valid.{ValidBlock, ValidStation, ValidStore}
use Rattle.store_layout.specs.Updates.{with_block, with_station}
use Rattle.store_layout.proofs.Validity.{valid_with_block, valid_with_station}
use Rattle.rules.specs.Calls.{Call, refused, Request, Ask, unnamed, named, denied, ask}
use Rattle.rules.specs.Rules.{Date, Effect, keeps, makes, rule}

-- the station u may stand in t's place
pub record Kept (t u : Station) : Type 0 where
  pub number : u.number ≡ t.number
  pub valid : ValidStation u

-- so may one that stands in u's place
pub kept_on : {t u w : Station} → Kept t u → (ValidStation u → Kept u w) → Kept t w
kept_on k h = record { number = (h k.valid).number ∙ k.number; valid = (h k.valid).valid }

pub kept_block : (b : Block) (mark : ℕ) (t : Station) → ValidStation t → ValidBlock mark b → mark ≤ 9 → Kept t (with_block b mark t)
unfolding with_block
kept_block b mark t v w l = record { number = refl; valid = valid_with_block b mark t v w l }

pub valid_kept : (i : ℕ) (u : Station) (m : Store) → ValidStore m → Kept (station_at m.stations i) u → ValidStore (with_station i u m)
valid_kept i u m v k = valid_with_station i u m k.number v k.valid

-- what the request makes of a valid station may stand in its place
abbrev pub Lawful : Request → Type 0
Lawful request = (d : Date) (t u : Station) → ValidStation t → rule d request t ≡ makes u → Kept t u

-- so with all that a call can ask
pub record AllLawful : Type 0 where
  pub asked : (c : Call) (x : ℕ) (request : Request) → ask c ≡ named x request → Lawful request

-- what a call does to the station that it names
abbrev pub done_by : Date → Ask → Station → Effect
done_by d (unnamed n) t = keeps (refused n)
done_by d (named y request) t = rule d request t
done_by d (denied y n) t = keeps (refused n)

pub kept_by : AllLawful → (c : Call) (d : Date) (t u : Station) → ValidStation t → done_by d (ask c) t ≡ makes u → Kept t u
kept_by lawful c d t u v = go (ask c) refl
  where
    go : (q : Ask) → ask c ≡ q → done_by d q t ≡ makes u → Kept t u
    go (unnamed n) e r = let z : ◌≡◌ {A = ℕ} 0 1 = cc in absurd (omega arith)
    go (named y request) e r = lawful.asked c y request e d t u v r
    go (denied y n) e r = let z : ◌≡◌ {A = ℕ} 0 1 = cc in absurd (omega arith)
