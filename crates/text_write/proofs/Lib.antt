pub mod Words
pub mod Spelled
