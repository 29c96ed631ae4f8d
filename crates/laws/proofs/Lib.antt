-- Laws that several crates' proofs cite.
pub mod Rules
pub mod Bools
pub mod Every
pub mod Tables
pub mod Positions
pub mod Fill
pub mod Maps
pub mod Offset
pub mod Differences
pub mod Calls
