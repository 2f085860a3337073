pub mod States
pub mod Offered
pub mod Meaning
pub mod Demand3
pub mod Smallest
