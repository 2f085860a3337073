-- What a search in the row of links finds.
pub mod Links
pub mod Search
