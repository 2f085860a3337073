-- Laws of what is told, which the crates above cite.
pub mod Loops
pub mod Counts
pub mod Keys
