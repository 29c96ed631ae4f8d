-- `store_opening::fresh::put_fresh` meets its contract. Header, entries and blocks are laid one after the other, and are the whole store.
use native.Mathlib.Omega.{arith}
use Rattle.calendar.proofs.Dates.{real}
use Rattle.store_layout.specs.Layout.{pieces}
use Rattle.store_layout.proofs.Opened.{openable_parts}
use Rattle.store_opening.proofs.Laid.{fresh_written}
use Rattle.store_opening.proofs.fresh.put_fresh.Goals as goal

pub overflow_cast-words : goal.overflow_cast-words
overflow_cast-words c = omega (arith, (openable_parts _ _ _ _ _ _ c.requires).few)

pub block_at-requires : goal.block_at-requires
block_at-requires c = omega (arith, (openable_parts _ _ _ _ _ _ c.requires).few)

pub overflow_cast-words-3 : goal.overflow_cast-words-3
overflow_cast-words-3 c = omega (arith, (openable_parts _ _ _ _ _ _ c.requires).few, c.block_at.ensures)

pub overflow_cast-words-5 : goal.overflow_cast-words-5
overflow_cast-words-5 c = omega (arith, real _ _ _ (openable_parts _ _ _ _ _ _ c.requires).date)

pub overflow_cast-words-6 : goal.overflow_cast-words-6
overflow_cast-words-6 c = omega (arith, real _ _ _ (openable_parts _ _ _ _ _ _ c.requires).date)

pub overflow_cast-words-7 : goal.overflow_cast-words-7
overflow_cast-words-7 c = omega (arith, real _ _ _ (openable_parts _ _ _ _ _ _ c.requires).date)

pub put_header-requires : goal.put_header-requires
put_header-requires c = omega (arith, (openable_parts _ _ _ _ _ _ c.requires).long)

pub put_entries-requires : goal.put_entries-requires
put_entries-requires c =
    let o = openable_parts _ _ _ _ _ _ c.requires in
    (o.paired, omega (arith, o.long, c.put_header.auto.store))

pub put_blocks-requires : goal.put_blocks-requires
put_blocks-requires c =
    let o = openable_parts _ _ _ _ _ _ c.requires in
    omega (arith, o.long, c.put_header.auto.store, c.put_entries.auto.store)

pub returns : goal.returns
unfolding pieces
returns c =
    let a = c.args in
    fresh_written a.date.year a.date.month a.date.day a.stations.now a.rows.now a.store.now _ _ _ (openable_parts _ _ _ _ _ _ c.requires).long
    (rw c.block_at.ensures at c.put_header.ensures)
    c.put_entries.ensures c.put_blocks.ensures
