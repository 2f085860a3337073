pub mod Index
pub mod Asked
pub mod Refusals
pub mod Told
pub mod Places
