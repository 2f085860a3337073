-- The laws of batches.
pub mod Cells
