pub mod OffGrid
