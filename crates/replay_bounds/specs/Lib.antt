pub mod Counts
pub mod Trials
