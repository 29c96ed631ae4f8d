-- Texts of fixed room: bytes written behind them.
pub mod Written
-- Numbers in decimal.
pub mod Numbers
-- Lists of fixed room that are copied.
pub mod Few
