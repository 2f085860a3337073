-- Laws of the conversion.
pub mod Laws
pub mod Listed
pub mod Read
