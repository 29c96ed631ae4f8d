-- Definitions that the crates' own definitions are made of: bounded tests and tables.
pub mod All
pub mod Table
pub mod Offset
