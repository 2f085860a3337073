pub mod Replied
pub mod Left
pub mod Second
pub mod Theorem
