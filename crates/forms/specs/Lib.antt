pub mod Sections
pub mod Narrow
pub mod Takes
pub mod Tails
pub mod Forms
