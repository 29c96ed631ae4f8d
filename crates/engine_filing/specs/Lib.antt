-- Where a report lies in a store.
pub mod Places
