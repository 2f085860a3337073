pub mod Job
pub mod Refusals
