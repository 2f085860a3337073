pub mod Considers
