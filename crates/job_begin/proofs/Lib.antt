-- Laws of the proofs.
pub mod Beginnings
