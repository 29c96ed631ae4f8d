-- A station settled at once, as the code makes it.
pub mod Settled
-- A step on a block, as the code makes it.
pub mod Cleared
-- A station settled in portions, as the code makes it.
pub mod PortionLaws
