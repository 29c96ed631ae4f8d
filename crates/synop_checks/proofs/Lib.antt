-- Laws of checks 1 and 2.
mod Reading
