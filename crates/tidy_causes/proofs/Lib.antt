-- What a search for a triangle says of its cause.
pub mod Causes
