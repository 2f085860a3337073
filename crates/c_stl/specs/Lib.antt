pub mod Stl
