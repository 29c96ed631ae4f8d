-- Laws that this crate's proofs, and those of the crates above, cite.
pub mod Ascending
pub mod Laying
pub mod Passed
-- Laws that the proofs of `area`, and those of `store_block`, cite.
pub mod BlockWrites
pub mod Sheets
-- A law that the proof of `set_settled` cites.
pub mod Marks
