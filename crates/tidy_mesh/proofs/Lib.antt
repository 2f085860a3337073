-- What the parts leave, in the words of the tidied mesh, and what they ask for; the outcome by its number; the tidied mesh passes.
pub mod Agree
pub mod Parts
pub mod Whole
pub mod Refused
pub mod Passes
