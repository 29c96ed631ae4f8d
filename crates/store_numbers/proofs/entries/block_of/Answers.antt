-- `store_numbers::entries::block_of` meets its contract. Named here, since the check's own search walks far before it comes to the law.
use native.Mathlib.Omega.{arith}
use Rattle.store_layout.specs.Layout.{decode_station}
use Rattle.store_layout.proofs.Stores.{station_of_bytes}
use Rattle.store_numbers.proofs.entries.block_of.Goals as goal

pub returns : goal.returns
unfolding decode_station
returns c = grind (arith, station_of_bytes)
