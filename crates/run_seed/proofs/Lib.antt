-- Laws that the crates above cite.
pub mod Whole
