pub mod Words
pub mod Geometry
pub mod Grids
