-- Laws that this crate's proofs cite.
pub mod Listed
pub mod Laid
pub mod Entered
