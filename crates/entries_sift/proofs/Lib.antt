pub mod Sinking
pub mod Steps
