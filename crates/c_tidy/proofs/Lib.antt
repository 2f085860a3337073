-- The law that `sdf_c` cites.
pub mod Given
