pub mod Mesh
pub mod Lent
