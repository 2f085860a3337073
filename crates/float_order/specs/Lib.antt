pub mod Compare
pub mod Asked
pub mod Total
pub mod Nearer
