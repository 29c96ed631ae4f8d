-- `store_soundness::stations::is_station` meets its contract: the entry, and the block where the entry is sound.
use mathlib.Core.Path.{◌≡◌, ◌∙◌, ap, ap₂}
use Prim.Native.Nat.{ℕ, ◌+◌}
use mathlib.Core.Bool.{◌&&◌}
use lib.Dec.{ltb}
use Rattle.store_layout.specs.Layout.{word, long, entry_at, settled_in}
use Rattle.store_layout.specs.Sound.{sound_entry, sound_block}
use Rattle.store_soundness.proofs.InTurn.{entry_fails, entry_holds}
use Rattle.store_soundness.proofs.stations.is_station.Goals as goal

pub returns-then-not-is_entry : goal.returns-then-not-is_entry
returns-then-not-is_entry c =
    let a = c.args in
    let tested : c.is_entry.result ≡ (ltb a.last (long a.store.now (entry_at a.i)) && sound_entry a.store.now a.i) =
    rw (← c.entry_at-at.ensures, ← c.word_at.ensures, ← c.long_at.ensures, ← c.word_at-settled.ensures) c.is_entry.ensures in
    entry_fails a.store.now a.n a.i a.last tested c.if-not-is_entry.true

pub returns : goal.returns
returns c =
    let a = c.args in
    let tested : c.is_entry.result ≡ (ltb a.last (long a.store.now (entry_at a.i)) && sound_entry a.store.now a.i) =
    rw (← c.entry_at-at.ensures, ← c.word_at.ensures, ← c.long_at.ensures, ← c.word_at-settled.ensures) c.is_entry.ensures in
    entry_holds a.store.now a.n a.i a.last tested c.if-not-is_entry.false
    (c.is_block.ensures ∙ ap₂ (λ (settled at : ℕ). sound_block settled a.store.now at)
    (c.word_at-settled.ensures
    ∙ ap (λ (at : ℕ). word a.store.now (at + settled_in)) c.entry_at-at.ensures)
    c.block_at.ensures)
