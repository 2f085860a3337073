-- Laws of the run that other crates cite.
pub mod Values
pub mod Offers
pub mod Waiting
pub mod Seeding
pub mod Queueing
pub mod Spreading
pub mod Keys
pub mod Done
pub mod Steps
pub mod Ways
pub mod Inputs
pub mod Numbers
pub mod NoCrossing
pub mod Ends
pub mod SameMesh
pub mod Standing
