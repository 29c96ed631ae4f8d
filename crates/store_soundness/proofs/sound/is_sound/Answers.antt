-- `store_soundness::sound::is_sound` meets its contract: the header's test, and the stations' where it holds.
use mathlib.Core.Path.{sym}
use native.Mathlib.Omega.{arith}
use Rattle.laws.proofs.Bools.{via}
use Rattle.store_soundness.proofs.Sounds.{short, header_long, sound_in_turn}
use Rattle.store_soundness.proofs.sound.is_sound.Goals as goal

pub returns-then-store-lt-HEADER_LENGTH : goal.returns-then-store-lt-HEADER_LENGTH
returns-then-store-lt-HEADER_LENGTH c = sym (short _ c.if-store-lt-HEADER_LENGTH.true)

pub returns-then-not-is_header : goal.returns-then-not-is_header
returns-then-not-is_header c = let h = c.is_header in rw (sound_in_turn, ← h.ensures, c.if-not-is_header.true)

pub are_stations-requires : goal.are_stations-requires
are_stations-requires c =
    let h = c.is_header in
    omega (arith, header_long _ (via h.ensures c.if-not-is_header.false))

pub returns : goal.returns
returns c =
    let h = c.is_header in
    rw (sound_in_turn, ← c.word_at-n.ensures, ← h.ensures, c.if-not-is_header.false) c.are_stations.ensures
