-- Marks by stores, and marks that become numbers.
pub mod Marks
pub mod Numbering
