-- What crates above cite.
pub mod Picks
pub mod Laws
