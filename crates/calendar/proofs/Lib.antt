-- Laws of dates and slots that other crates cite.
pub mod Dates
pub mod Slots
pub mod Examples
