pub mod Layers
pub mod Openings
pub mod Sums
