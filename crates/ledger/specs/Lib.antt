pub mod Places
pub mod Views
pub mod Tied
pub mod Meaning
pub mod Asked
pub mod Starts
