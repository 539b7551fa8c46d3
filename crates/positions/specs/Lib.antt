pub mod Sums
pub mod Net
pub mod Steps
pub mod Netted
pub mod Tiers
pub mod Law
pub mod Results
pub mod Examples
