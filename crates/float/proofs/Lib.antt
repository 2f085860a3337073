-- Laws that the crate's proofs, and those of the crates above it, cite.
pub mod Bools
pub mod Units
pub mod Order
pub mod Magnitude
pub mod Squares
pub mod Grid
pub mod Normal
pub mod Whole
pub mod Roots
pub mod NotBelow
pub mod Signs
pub mod ZeroSign
pub mod NoSign
pub mod RootOrder
