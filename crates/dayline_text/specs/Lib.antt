-- The text that the program `dayline` reads.
pub mod Cuts
pub mod FirstLine
pub mod Line
-- Where the program `dayline` stands in its input.
pub mod Input
-- The lines that the program `dayline` prints.
pub mod Printed
