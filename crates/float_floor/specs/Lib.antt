pub mod Cell
pub mod FloorCases
