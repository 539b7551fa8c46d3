pub mod Keeping
pub mod Placing
pub mod Listed
