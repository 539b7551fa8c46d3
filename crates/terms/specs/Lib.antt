pub mod Refusals
pub mod Ranges
pub mod Laws
pub mod Amounts
pub mod Told
pub mod Groups
