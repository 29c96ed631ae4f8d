-- The day and its slots.
pub mod Dates
pub mod Slots
