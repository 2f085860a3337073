-- The laws of the offers of a pop.
pub mod Batches
mod Gathering
