-- A row of floats by its bits.
pub mod Words
