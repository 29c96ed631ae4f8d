-- Laws of the vapour pressure: the one-pass form, bounds, the rule of the table's two constants, the lookup's tests, and a filled slice.
pub mod Pass
pub mod Most
pub mod Rule
pub mod Steps
pub mod Lookup
pub mod FilledSlice
pub mod Examples
-- Laws of the generator: the recurrence as the code has it.
pub mod Terms
pub mod Index
