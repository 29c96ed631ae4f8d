-- The counts of a day call's answer are at most 81, and its slots below 8.
-- Assumes nothing.
use mathlib.Core.Bool.{Bool, true, false, cond}
use mathlib.Core.List.{List}
use Prim.Native.Nat.{ℕ}
use lib.Dec.{eqb}
use Rattle.daily.specs.Line.{day_line}
use Rattle.store_layout.specs.Layout.{decode}
use Rattle.store_layout.specs.Index.{Index, nowhere, index, index_in, numbers}
use Rattle.store_layout.specs.Form.{ours}
use Rattle.store_layout.specs.Sound.{sound}
use Rattle.store_layout.specs.Model.{Station, station_at}
use Rattle.rules.specs.Calls.{Answer, refused, a_day, on_day, day, ask}
use Rattle.rules.specs.Rules.{rule, day_of}
use Rattle.rules.specs.Reaction.{stays, at}
use Rattle.rules.specs.Step.{Outcome, outcome_in, step_in, step, asked, unchanged}
use Rattle.capi.specs.Arrays.{Small, line_of}
use Rattle.capi.proofs.Within.{line_small}

abbrev pub Modest : Answer → Type 0
Modest a = on_day (λ d. Small (line_of d)) (Unit {0}) a

either : (b : Bool) (x y : Answer) → Modest x → Modest y → Modest (cond b x y)
either true x y h k = h
either false x y h k = k

either_way : (b : Bool) (o p : Outcome) → Modest o.answer → Modest p.answer → Modest (cond b o p).answer
either_way true o p h k = h
either_way false o p h k = k

modest_day : (t : Station) → Modest (day_of t)
unfolding day_of
modest_day t =
    let hs = t.block.heads in
    let s = t.block.checked in
    either (eqb t.settled 1) (a_day (day_line hs s)) (refused 11) (line_small hs s) (tt {0})

modest_at : (p : Index) (f : ℕ → Answer) (s : List ℕ) → ((i : ℕ) → Modest (f i)) → Modest (outcome_in ours (at p (λ i. stays (f i))) s).answer
modest_at nowhere f s h = tt
modest_at (index i) f s h = h i

pub modest_step : (x : ℕ) (s : List ℕ) → Modest (step (day x) s).answer
unfolding step_in rule
modest_step x s =
    let m = decode s in
    either_way (sound s) (asked (ask (day x)) m s) (unchanged (refused 9) s)
    (modest_at (index_in (numbers m) x) (λ i. day_of (station_at m.stations i)) s (λ i. modest_day (station_at m.stations i))) (tt {0})
