-- A call by what the search for its station answers, and an open.
pub mod Located
pub mod Opening
