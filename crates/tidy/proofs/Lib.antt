-- The laws that other crates cite.
pub mod Same
pub mod Numbers
pub mod Coordinates
pub mod Ascending
pub mod Kept
pub mod Tidied
pub mod Laws
pub mod One
pub mod Twice
pub mod Again
pub mod Example
