-- Laws of the cut into reports, of filing them, and of a station's line.
pub mod Cutting
pub mod FiledPieces
pub mod Stations
