-- Bulletins: what the whole answers and leaves, in any byte form of a store, and as calls.
pub mod Bulletin
pub mod Filings
pub mod Forms
-- The text of bulletins: how it is cut into reports, the heading, and each report's rebuilt text.
pub mod Pieces
pub mod Heading
pub mod Rebuilt
-- One report of a bulletin, filed.
pub mod Filed
