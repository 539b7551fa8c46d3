pub mod Parts
pub mod Masks
pub mod Published
