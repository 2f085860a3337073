-- Pieces put to the front for those that pass a test, zeros behind them.
pub mod Packed
