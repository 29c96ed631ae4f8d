-- The text of a report: which characters part groups, the groups, and the kind of each.
pub mod Characters
pub mod Groups
pub mod Kinds
pub mod Walk
-- The order of the groups of a report: document 01's check 5.
pub mod Places
