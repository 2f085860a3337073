pub mod Popping
