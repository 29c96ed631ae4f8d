-- Laws of the reading of a report. `Refusals` and `ReportRanges` are for callers.
mod Assembled
mod Walking
pub mod Refusals
pub mod ReportRanges
pub mod Examples
-- Laws of what a report's groups hold, all of them for callers.
pub mod Numbers
pub mod ContentRanges
