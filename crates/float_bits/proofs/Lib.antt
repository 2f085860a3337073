-- Which patterns are a NaN's.
pub mod Patterns
