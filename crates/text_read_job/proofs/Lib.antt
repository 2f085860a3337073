pub mod Whole
pub mod Held
