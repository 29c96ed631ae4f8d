-- Laws of writing behind a text of fixed room.
pub mod Writing
-- Laws of numbers in decimal.
pub mod Decimals
