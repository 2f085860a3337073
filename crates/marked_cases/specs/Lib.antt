pub mod RootCases
pub mod SnapCases
pub mod GeoCases
pub mod CompareCases
pub mod Marked
