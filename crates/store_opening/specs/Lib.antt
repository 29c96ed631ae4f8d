-- What opening answers, and the buffer that it leaves.
pub mod Opened
