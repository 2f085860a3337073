-- what crates above cite
pub mod Offers
pub mod Told
