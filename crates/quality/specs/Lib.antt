-- Document 01, "The store" (cells) and "Settling a station", in the paper's order.
pub mod Cell
pub mod Elements
pub mod Limits
pub mod Steps
pub mod Settled
pub mod Valid
pub mod Coded
-- What a row of the table of limits stands for.
pub mod Rows
