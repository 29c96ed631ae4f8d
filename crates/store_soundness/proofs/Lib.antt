-- Laws that this crate's proofs, and those of the crates above, cite.
pub mod InTurn
pub mod Locations
pub mod Indices
pub mod Sounds
-- Laws that the proofs of `blocks` cite.
pub mod BlockSounds
pub mod Nines
