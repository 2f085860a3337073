-- Laws of what is printed.
mod Within
mod Line
mod Held
pub mod Left
mod Lent
mod Read
pub mod Given
pub mod Laws
