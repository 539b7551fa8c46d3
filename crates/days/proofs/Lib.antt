pub mod Tiling
pub mod Naming
