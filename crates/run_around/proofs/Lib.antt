-- The laws that the proofs of the functions cite, and those of the crates above.
mod Steps
pub mod Places
