pub mod Explicit
