pub mod Listing
pub mod Written
