-- The laws that other crates cite.
pub mod Pieces
pub mod Replies
pub mod Written
pub mod RoundTrip
pub mod Vertices
pub mod NoInfluence
pub mod ReadBack
