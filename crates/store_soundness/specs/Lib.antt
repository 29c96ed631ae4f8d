-- What the search answers.
pub mod Located
