-- The laws that other crates cite.
pub mod Told
pub mod Accepted
pub mod Places
pub mod One
pub mod Passes
pub mod Sight
pub mod Asked
