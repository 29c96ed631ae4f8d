-- Laws of the places where the input is cut, and of the first line.
pub mod Cuts
pub mod Lines
mod Examples
pub mod Opening
-- The laws behind what a read gave and the reading of the first line.
pub mod Answers
pub mod Beginnings
-- Laws of the printed lines.
mod Printing
mod PrintedExamples
