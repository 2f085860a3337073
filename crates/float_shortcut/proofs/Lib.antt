-- Laws that the crate's proofs, and those of the crates above it, cite.
pub mod Signed
