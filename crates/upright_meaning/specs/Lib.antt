pub mod Upright
