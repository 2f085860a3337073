pub mod Axes
pub mod Index
pub mod Layers
pub mod Place
pub mod Bounds
pub mod Reply
