-- Laws of the day line: extremes, counts, and what follows from an answer.
pub mod Ties
pub mod Scan
pub mod Counting
pub mod Answers
