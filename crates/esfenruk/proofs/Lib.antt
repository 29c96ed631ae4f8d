-- Laws that the calls' proofs cite.
pub mod Within
pub mod Days
