pub mod Words
pub mod Limits
pub mod TextJob
pub mod Reader
pub mod Answering
