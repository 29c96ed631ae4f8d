-- How long a buffer can be.
pub mod Room
-- A block's two sheets.
pub mod Areas
-- The settled number written.
pub mod Marked
