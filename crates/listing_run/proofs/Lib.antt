-- Laws of the listing of a run.
pub mod Same
