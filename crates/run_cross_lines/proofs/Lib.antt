-- Laws of the lines and of the crossing pass, which the crates above cite.
pub mod Entries
pub mod Grown
pub mod Marks
pub mod Reach
pub mod Hits
pub mod Grazing
