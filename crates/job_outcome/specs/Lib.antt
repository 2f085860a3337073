pub mod Outcome
pub mod Finished
pub mod Numbers
