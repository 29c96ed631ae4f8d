-- Laws of the parts of a report, all of them for callers.
pub mod PartLaws
