-- `rules::proof_table` meets its contract: it is the proof table.
use Rattle.rules.proofs.ProofTable.{proof_table}
use Rattle.rules.proofs.proof_table.Goals as goal

pub returns : goal.returns
returns c = proof_table
