pub mod States
pub mod Neighbours
pub mod Values
pub mod Exact
pub mod Cells
pub mod Theorem
pub mod Smallest
