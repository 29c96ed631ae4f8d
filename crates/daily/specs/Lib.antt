-- Document 01, "The day line", in the paper's order; then what the code's answers say, and those of its inner functions.
pub mod Means
pub mod Rain
pub mod Extremes
pub mod Counts
pub mod Line
pub mod Coded
pub mod Parts
