-- Laws that the crate's proofs, and those of the crates above it, cite.
pub mod Difference
pub mod Alike
pub mod Farther
pub mod Signs
pub mod Patterns
pub mod Total
pub mod Laws
pub mod Edges
pub mod Nearer
pub mod Height
pub mod Keys
