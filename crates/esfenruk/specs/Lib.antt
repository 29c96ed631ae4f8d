-- What the numbers and arrays say that the calls for C and Rust give.
pub mod Numbers
pub mod Arrays
