-- What crates above cite.
pub mod Rays
pub mod Sides
