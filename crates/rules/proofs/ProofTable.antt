-- Document 01's proof table, by computation and from the theorems of the crates that the lines are about.
--     proof_table
-- Assumes nothing.
use mathlib.Core.Path.{refl}
use Rattle.laws.specs.Table.{table}
use Rattle.quality.specs.Settled.{time_of, fill_of}
use Rattle.quality.specs.Steps.{between, range_cell, time_cell, spike_cell, fill_cell}
use Rattle.calendar.proofs.Examples.{after_2024_02_28}
use Rattle.synop_values.proofs.ProofTable as codes
use Rattle.vapour.proofs.Examples.{at_0, at_100}
use Rattle.rules.specs.ProofTable.{ProofTable}

pub proof_table : ProofTable
unfolding table time_of fill_of between range_cell time_cell spike_cell fill_cell
proof_table =
    record {
      knots_45 = (codes.proof_table).0;
      knots_99 = (codes.proof_table).1;
      visibility_55 = (codes.proof_table).2;
      visibility_56 = (codes.proof_table).3;
      visibility_89 = (codes.proof_table).4;
      rain_989 = (codes.proof_table).5;
      rain_990 = (codes.proof_table).6;
      pressure_0132 = (codes.proof_table).7;
      pressure_8500 = (codes.proof_table).8;
      vapour_0 = at_0;
      vapour_100 = at_100;
      fill = refl;
      mends = refl;
      keeps = refl;
      suspect_480 = refl;
      discarded_481 = refl;
      after_2024_02_28 = after_2024_02_28;
    }
