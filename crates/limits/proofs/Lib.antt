pub mod Layering
pub mod Sums
pub mod Places
pub mod Refusing
pub mod Openings
