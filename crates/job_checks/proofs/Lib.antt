-- Laws that the crates above cite.
pub mod MeshPassed
pub mod Accepted
mod Groups
pub mod HandedUp
