-- Laws of the code tables: the bounds that callers cite.
pub mod CodeRanges
-- Laws of the values that a group's characters give: what the proofs cite, the bounds that callers cite, and the paper's proof table.
pub mod Numbers
pub mod FigureRanges
pub mod ProofTable
