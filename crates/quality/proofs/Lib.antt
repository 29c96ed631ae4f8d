-- Laws of this crate's definitions that its proofs, and those of the crates above, cite.
pub mod Columns
pub mod Between
pub mod InPlace
pub mod Sheets
pub mod Validity
pub mod Humidity
pub mod PassedOver
pub mod Examples
