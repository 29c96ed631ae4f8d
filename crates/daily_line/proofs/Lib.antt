-- A law that the proof of `day_line` cites.
pub mod Sheet
-- Laws of the means: the exact eighth, a column gone through.
pub mod Exact
pub mod Sums
-- Laws of the day's rain.
pub mod Amounts
-- Laws of the column of vapour pressures: its cells by the table's entries.
pub mod Lookup
