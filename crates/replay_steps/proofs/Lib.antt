-- Laws that the crate's proofs cite.
pub mod Floats
pub mod Places
pub mod Orders
