pub mod Periods
pub mod Loads
pub mod Hours
pub mod Examples
