-- Laws of the listing.
pub mod Shown
