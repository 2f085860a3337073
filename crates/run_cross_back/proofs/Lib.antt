-- Laws of the sums along the lines, which the crates above cite.
pub mod Falling
pub mod Back
