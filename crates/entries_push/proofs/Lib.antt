pub mod Pushes
