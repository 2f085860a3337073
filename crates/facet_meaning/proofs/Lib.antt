pub mod Words
pub mod Checks
pub mod Theorem
pub mod Job
pub mod OneAnswer
