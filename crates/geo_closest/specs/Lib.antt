pub mod Closest
