pub mod Threes
pub mod Stored
