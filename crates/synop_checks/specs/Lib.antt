-- Document 01's checks 3 and 4, and the number of the first check of 1 to 5 that fails.
pub mod Shapes
pub mod Ranges
pub mod Refusal
-- Document 01's checks 1 and 2.
pub mod Bytes
