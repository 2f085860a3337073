pub mod Records
pub mod Same
