pub mod Words
pub mod Calls
pub mod Job
pub mod OneAnswer
