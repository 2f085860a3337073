pub mod File
pub mod Reply
pub mod Alike
