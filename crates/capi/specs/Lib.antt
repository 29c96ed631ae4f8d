-- A day line as arrays of numbers.
pub mod Arrays
-- What the numbers say that the calls for C and Rust return.
pub mod Numbers
