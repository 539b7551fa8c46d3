pub mod Rows
pub mod Rules
pub mod Places
pub mod Views
