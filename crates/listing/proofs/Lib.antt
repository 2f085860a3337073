-- Laws on what a text asks for.
pub mod Counts
pub mod AskedJob
