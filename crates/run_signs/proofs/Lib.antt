-- What crates above cite.
pub mod Parity
