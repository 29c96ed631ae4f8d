-- `engine_filing::placing::file_at` meets its contract.
use mathlib.Core.Path.{◌≡◌, refl, ◌∙◌, ap}
use mathlib.Core.List.{List}
use Prim.Native.Nat.{ℕ}
use Rattle.synop.specs.Contents.{listed}
use Rattle.store_layout.specs.Layout.{decode}
use Rattle.store_layout.specs.Model.{Block, head_of, station_at}
use Rattle.rules.specs.Calls.{Answer}
use Rattle.rules.specs.Rules.{Effect}
use Rattle.quality.specs.declared.head.SlotHead.{SlotHead}
use Rattle.rules.specs.Step.{after}
use Rattle.engine_answers.specs.Replies.{Did}
use Rattle.engine_answers.proofs.Outcomes.{did_as}
use Rattle.engine_answers.proofs.Stores as Stores
use Rattle.engine_filing.proofs.Placed as Placed
use Rattle.engine_filing.proofs.placing.file_at.Goals as goal

-- the head that the slot has
there : (s : List ℕ) (i k : ℕ) {b : Block} {h : SlotHead} → b ≡ (station_at (decode s).stations i).block → h ≡ head_of b k
    → h ≡ head_of (station_at (decode s).stations i).block k
there s i k e f = f ∙ ap (λ (x : Block). head_of x k) e

-- what the rule comes to
by : (s : List ℕ) (i : ℕ) {e d : Effect} → e ≡ d → {a : Answer} {t : List ℕ} → Did (after d i (decode s) s) a t → Did (after e i (decode s) s) a t
by s i e w = did_as (ap (λ (d : Effect). after d i (decode s) s) e) w

pub returns-then-f-old : goal.returns-then-f-old
returns-then-f-old c =
    let o = c.args in
    let e = there o.store.now o.index o.k c.block_of.ensures c.head_of-old.ensures in
    by o.store.now o.index
    (Placed.above o.k o.f.rank o.f.indicators (listed o.f.values) (station_at (decode o.store.now).stations o.index) e c.if-f-old.true)
    (record { answer = refl; left = refl })

pub returns-then-filed_already : goal.returns-then-filed_already
returns-then-filed_already c =
    let o = c.args in
    let e = there o.store.now o.index o.k c.block_of.ensures c.head_of-old.ensures in
    by o.store.now o.index
    (Placed.already o.k o.f.rank o.f.indicators (listed o.f.values) (station_at (decode o.store.now).stations o.index) e c.if-f-old.false c.if-filed_already.true)
    (record { answer = refl; left = refl })

pub returns : goal.returns
returns c =
    let o = c.args in
    let e = there o.store.now o.index o.k c.block_of.ensures c.head_of-old.ensures in
    by o.store.now o.index
    (Placed.free o.k o.f.rank o.f.indicators (listed o.f.values) (station_at (decode o.store.now).stations o.index) e c.if-f-old.false c.if-filed_already.false)
    (record { answer = refl; left = c.put_filed.ensures })

pub block_of-requires : goal.block_of-requires
block_of-requires c = Stores.at_index c.requires.station
