-- what crates above cite
pub mod Laws
