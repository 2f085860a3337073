pub mod Laws
pub mod Facts
pub mod Snaps
pub mod Standing
