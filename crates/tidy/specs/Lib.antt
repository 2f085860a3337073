pub mod Same
pub mod Numbers
pub mod Tidy
pub mod Ascending
pub mod Meaning
pub mod Padded
