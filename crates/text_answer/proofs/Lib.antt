-- Laws of answering.
pub mod Read
