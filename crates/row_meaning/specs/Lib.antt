pub mod Rows
pub mod CountedCases
