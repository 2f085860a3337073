pub mod Tidied
pub mod Parts
