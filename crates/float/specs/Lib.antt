pub mod Arith
pub mod Steps
pub mod Distance
pub mod Root
pub mod RootOf
pub mod Case
