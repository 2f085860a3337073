-- Laws of the proofs, and of the crates above.
pub mod OneReply
pub mod Outcomes
pub mod Numbers
pub mod Passed
pub mod SameMesh
