-- What the calls' answers say, and what the functions below the calls are given.
pub mod Good
pub mod Replies
pub mod Forms
