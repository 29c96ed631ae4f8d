-- Laws that this crate's proofs cite.
pub mod Crossing
pub mod Changing
