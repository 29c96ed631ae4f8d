-- Which group of a report is which.
pub mod Parts
