pub mod Lines
pub mod Pass
