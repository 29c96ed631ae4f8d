-- The vapour pressure at a dew point, the table of it as it is kept, and what the generator leaves.
pub mod Vapour
pub mod Kept
pub mod Generator
