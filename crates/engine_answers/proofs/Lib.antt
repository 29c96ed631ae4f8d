-- Laws on a sound store, on what a call comes to, and on open in two byte forms.
pub mod Stores
pub mod Blocks
pub mod Outcomes
pub mod Forms
