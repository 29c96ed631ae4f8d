-- A report read: what a text is.
pub mod Report
-- What the groups of a report hold.
pub mod Contents
