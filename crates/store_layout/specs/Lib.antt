-- Document 01, "The store": the model, which models are stores, the byte layout, soundness, the byte form, opening, and where a station lies.
pub mod Model
pub mod Valid
pub mod Layout
pub mod Framed
pub mod Sound
pub mod Form
pub mod Opening
pub mod Index
pub mod Updates
