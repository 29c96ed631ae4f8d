-- The values of the elements, and the code tables that give them: document 01, "Values", and the head's iR and dd of "The store".
pub mod Value
pub mod Tables
-- What one SYNOP group means: document 01, "Values", and the head's iR, tR and dd of "The store".
pub mod Digits
pub mod Elements
pub mod Indicators
pub mod OneGroup
