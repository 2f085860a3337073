pub mod Tidied
pub mod Second
pub mod Refused
