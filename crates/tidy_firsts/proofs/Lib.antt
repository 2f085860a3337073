-- What a search for a vertex says of its first.
pub mod Firsts
