pub mod OnAxis
pub mod AxisBounds
