-- Laws that the crates above cite too.
pub mod Pops
